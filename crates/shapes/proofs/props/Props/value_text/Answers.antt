use Rattle.std.specs.Option.{option_map}
use Rattle.std.specs.Prelude.{string_bytes}
use Rattle.serde_json.specs.View.{view}
use Rattle.shapes.specs.Parts.{properties_text}
use Rattle.shapes.proofs.PropertyTexts.{text_answers}
use Rattle.shapes.proofs.props.Props.value_text.Goals as goal

pub returns-in-Some : goal.returns-in-Some
returns-in-Some c =
    text_answers (option_map string_bytes) c.text_of.result c.text.result.now (properties_text c.args.self.now) c.args.name.now (view c.in-Ok.value) (view c.in-Some.found.now)
    c.args.self.now.properties c.text.ensures c.in-Ok.ensures.ok c.in-Some.ensures c.text_of.ensures
