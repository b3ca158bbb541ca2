use Rattle.std.proofs.Common.{◌∙◌, sym}
use Rattle.shapes.specs.FormLaws.{form_map_itself}
use Rattle.snapping.proofs.nearly_shared.joining.join_parts.Goals as goal

pub returns : goal.returns
returns c = sym (form_map_itself c.in_ok-made.made) ∙ c.in_ok-made.ensures
