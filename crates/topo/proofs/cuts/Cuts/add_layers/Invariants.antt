use Rattle.std.proofs.Common.{◌≡◌, ◌++◌}
use Rattle.theory.specs.Lists.{gathered}
use Rattle.topo.specs.Building.{layer_counts, layer_pieces}
use Rattle.topo.proofs.cuts.Cuts.add_layers.Given as goal

abbrev pub invariant-loop-layer : goal.invariant-loop-layer
invariant-loop-layer l = record {
  pieces : l.self.pieces.items ++ gathered (layer_pieces l.fn.index) l.layer-iterator
      ≡ l.fn.self.pieces.items ++ gathered (layer_pieces l.fn.index) l.initial.layer-iterator;
  counts : l.self.counts.items ++ gathered (layer_counts l.fn.index) l.layer-iterator
      ≡ l.fn.self.counts.items ++ gathered (layer_counts l.fn.index) l.initial.layer-iterator;
}
