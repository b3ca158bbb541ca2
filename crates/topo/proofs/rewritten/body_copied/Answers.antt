use Rattle.std.proofs.Common.{◌∙◌, sym}
use Rattle.shapes.specs.FormLaws.{form_map_itself}
use Rattle.topo.proofs.rewritten.body_copied.Goals as goal

pub returns : goal.returns
returns g c = sym (form_map_itself c.in_ok-made.made) ∙ c.in_ok-made.ensures
