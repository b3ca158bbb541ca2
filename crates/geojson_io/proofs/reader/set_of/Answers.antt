use Rattle.std.proofs.Common.{◌↔◌, IsTrue, sym, subst}
use Rattle.shapes.specs.Sets as set
use Rattle.theory.specs.Lists.{Has}
use Rattle.shapes.proofs.Members.{has_listed}
use Rattle.geojson_io.proofs.reader.set_of.Goals as goal

pub returns-in-Ok-clause-ok : goal.returns-in-Ok-clause-ok
returns-in-Ok-clause-ok c = λ f. subst (λ s. IsTrue (set.contains s f) ↔ Has f c.args.features.items) (sym c.in-Ok.ensures) (has_listed c.args.features.items f)
