-- What a text is.
use Rattle.std.proofs.Common.{◌≡◌, ℕ, List, Some, None, Bool, true, false, refl}
use Rattle.std.specs.Str.{is_utf8, IsUtf8}
use Rattle.std.proofs.lemmas.Str.{IsUtf8-from_is_utf8, is_utf8-from_IsUtf8}
use Rattle.serde_json.specs.Data.{Data}
use Rattle.serde_json.specs.Read.{read}
use Rattle.reading.specs.Text.{document}

pub document_is : (bytes : List ℕ) (d : Data) → IsUtf8 bytes → read bytes ≡ Some d → document bytes ≡ Some d
document_is bytes d text is = rw (is_utf8-from_IsUtf8 bytes text, is)

none_by : (bytes : List ℕ) (b : Bool) → is_utf8 bytes ≡ b → (IsUtf8 bytes → read bytes ≡ None) → document bytes ≡ None
none_by bytes true is none = rw is (none (IsUtf8-from_is_utf8 bytes is))
none_by bytes false is none = rw is refl

pub document_none : (bytes : List ℕ) → (IsUtf8 bytes → read bytes ≡ None) → document bytes ≡ None
document_none bytes none = none_by bytes (is_utf8 bytes) refl none
