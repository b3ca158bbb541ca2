use Rattle.std.proofs.Common.{subst, IsUtf8}
use Rattle.std.proofs.lemmas.Str.{IsUtf8-string_bytes}
use Rattle.shapes.proofs.PropertiesLemmas.{empty_is_properties, empty_is_lexed}
use Rattle.shapes.proofs.props.Props.empty.Goals as goal

pub invariant_of-result : goal.invariant_of-result
invariant_of-result c =
    let utf8 = subst IsUtf8 c.in_ok-from_str.ensures.ok (IsUtf8-string_bytes c.in_ok-from_str.field-0) in
    rw (c.from_string-text.ensures, c.in_ok-from_str.ensures.ok) (record { properties = empty_is_properties utf8; lexed = empty_is_lexed })
