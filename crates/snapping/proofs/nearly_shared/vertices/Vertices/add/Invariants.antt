use Rattle.std.proofs.Common.{◌≡◌, ◌+◌, ◌++◌, drop}
use Rattle.snapping.specs.NearlyShared.Uses.{shapes_uses}
use Rattle.snapping.proofs.nearly_shared.vertices.Vertices.add.Given as goal

abbrev pub invariant-loop-shape : goal.invariant-loop-shape
invariant-loop-shape l = record {
  uses :
      l.self.uses.items ++ shapes_uses l.self.features (drop l.shape-index l.shapes) ≡ l.fn.self.uses.items ++ shapes_uses l.fn.self.features l.shapes;
  features : l.self.features ≡ l.fn.self.features + l.shape-index;
}
