use Rattle.std.proofs.Common.{◌∙◌, ap}
use Rattle.theory.specs.Lists.{joined}
use Rattle.shapes.proofs.Walks.{rings_joined}
use Rattle.shapes.proofs.form.Form.rings.Goals as goal

pub returns : goal.returns
returns g c = ap joined c.polygons.ensures ∙ rings_joined c.args.self.now
