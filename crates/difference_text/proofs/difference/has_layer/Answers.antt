use Rattle.difference_text.proofs.DifferenceTextLemmas.{layer_there}
use Rattle.difference_text.proofs.difference.has_layer.Goals as goal

pub returns : goal.returns
returns c = λ m of. layer_there c.args.topology.now m of c.args.name.now c.geometries.result c.geometries.ensures.found c.geometries.ensures.none c.is_some.result c.is_some.ensures
