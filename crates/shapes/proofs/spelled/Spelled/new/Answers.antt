use Rattle.std.proofs.Common.{◌≡◌, true, sym, subst}
use Rattle.std.specs.Str.{is_utf8}
use Rattle.std.proofs.lemmas.Str.{is_utf8-from_IsUtf8, IsUtf8-string_bytes}
use Rattle.shapes.proofs.spelled.Spelled.new.Goals as goal

pub invariant_of-result-clause-utf8 : goal.invariant_of-result-clause-utf8
invariant_of-result-clause-utf8 c =
    subst (λ b. is_utf8 b ≡ true) (sym c.from_string-text.ensures) (is_utf8-from_IsUtf8 _ (IsUtf8-string_bytes c.in_ok-from_str-2.field-0))
