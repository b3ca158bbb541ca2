use Rattle.std.proofs.Common.{refl, ◌∙◌, sym, ap, string_bytes}
use Rattle.std.proofs.lemmas.Str.{IsUtf8-string_bytes}
use Rattle.serde_json.specs.View.{view}
use Rattle.serde_json.proofs.Views.{view-Object}
use Rattle.shapes.proofs.PropertiesLemmas.{made, lexed}
use Rattle.shapes.proofs.props.Props.from_value.Goals as goal

pub invariant_of-result : goal.invariant_of-result
invariant_of-result c =
    let whole = sym c.has_fraction.ensures ∙ c.if-has_fraction.false in
    let shallow = c.if-not-nests_within.ensures.0 refl in
    let e = c.in-Ok.ensures in
    rw c.from_string.ensures (record {
      properties = made (string_bytes c.in-Ok.text) (view c.args.value.now) _ (ap view c.in-Object.is ∙ view-Object c.in-Object.field-0) e.text e.reads_back (IsUtf8-string_bytes c.in-Ok.text) whole shallow;
      lexed = lexed (string_bytes c.in-Ok.text) (view c.args.value.now) e.reads_back e.order whole shallow;
    })
