use Rattle.std.proofs.Common.{◌≡◌, ◌++◌}
use Rattle.theory.specs.Lists.{gathered}
use Rattle.topo.specs.Building.{feature_counts, feature_pieces}
use Rattle.topo.proofs.cuts.Cuts.add_features.Given as goal

abbrev pub invariant-loop-feature : goal.invariant-loop-feature
invariant-loop-feature l = record {
  pieces : l.self.pieces.items ++ gathered (feature_pieces l.fn.index) l.feature-iterator
      ≡ l.fn.self.pieces.items ++ gathered (feature_pieces l.fn.index) l.fn.features.keys;
  counts : l.self.counts.items ++ gathered (feature_counts l.fn.index) l.feature-iterator
      ≡ l.fn.self.counts.items ++ gathered (feature_counts l.fn.index) l.fn.features.keys;
}
