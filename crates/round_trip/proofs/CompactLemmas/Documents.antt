-- The compact text of a good value is a document, and its value is that one.
use Rattle.std.proofs.Common.{◌≡◌, ℕ, ◌≤◌, List, Some, ap, ◌∙◌}
use Rattle.serde_json.specs.Data.{Data}
use Rattle.serde_json.specs.Read.{max_depth}
use Rattle.serde_json.specs.Written.{compact_text}
use Rattle.reading.specs.Text.{document}
use Rattle.reading.proofs.Texts.{document_is}
use Rattle.round_trip.specs.Compact.Good.{Good, GoodTextsAreRead}
use Rattle.round_trip.proofs.CompactLemmas.GoodParts.{deeper, read-Good}

pub good_texts_are_read : GoodTextsAreRead
good_texts_are_read d g = document_is (compact_text d) d g.utf8 (read-Good d g)

pub document_of : (n : ℕ) (d : Data) → n ≤ 127 → Good n d → document (compact_text d) ≡ Some d
document_of n d h g = good_texts_are_read d (deeper n max_depth d h g)

-- of a text that is written so
pub document_is_read : (text : List ℕ) (n : ℕ) (d : Data) → text ≡ compact_text d → n ≤ 127 → Good n d → document text ≡ Some d
document_is_read text n d is h g = ap document is ∙ document_of n d h g
