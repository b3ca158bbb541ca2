use Rattle.query.specs.EachOnce.{borrowed}
use Rattle.query.proofs.Holding.{all_gathered}
use Rattle.query.proofs.distinct.geometries_in.Goals as goal

pub returns : goal.returns
returns c = all_gathered (λ l. l.geometries) c.args.layers.now c.loop-layer.layer-index (borrowed c.loop-layer.found.items) _ c.loop-layer-test.false c.loop-layer.invariant
