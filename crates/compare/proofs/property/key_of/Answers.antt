use Rattle.std.proofs.Common.{ap, refl, sym, subst, ◌∙◌}
use Rattle.std.specs.Option.{option_map}
use Rattle.std.specs.Prelude.{string_bytes}
use Rattle.shapes.specs.declared.shape.Id.TheVariants.{Text}
use Rattle.compare.specs.Keyed.{IsKey}
use Rattle.compare.proofs.property.key_of.Goals as goal

pub returns-in_ok-new-in-Some : goal.returns-in_ok-new-in-Some
returns-in_ok-new-in-Some c =
    subst (λ w. IsKey w (Text c.in_ok-new-in-Some.field-0)) (sym (ap (option_map string_bytes) c.in-Some.is) ∙ c.in_ok-text.ensures)
    (c.in_ok-new-in-Some.field-0, refl, c.in_ok-new-in-Some.ensures ∙ c.as_str.ensures.value)
