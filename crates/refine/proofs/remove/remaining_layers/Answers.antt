use Rattle.std.proofs.Common.{◌++◌, ap, map}
use Rattle.topo.specs.LayerLaws.Leaving.{layer_less}
use Rattle.refine.specs.Borrowed.{all_borrowed}
use Rattle.topo.proofs.LayerLawsLemmas.Passing.{all_have}
use Rattle.refine.proofs.remove.remaining_layers.Goals as goal

pub loop-layer-init : goal.loop-layer-init
loop-layer-init c = record {
  there = (let (m, h) = c.layers-layer-items.ensures.of_map in all_have m c.args.topology.now h);
  made = ap (λ l. all_borrowed l ++ map (layer_less c.args.topology.now.arcs.arcs c.args.removed.now) c.args.topology.now.layers) c.in_ok-layers.ensures.items;
}
