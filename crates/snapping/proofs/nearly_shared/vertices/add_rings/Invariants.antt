use Rattle.std.proofs.Common.{◌≡◌, ◌++◌}
use Rattle.theory.specs.Lists.{gathered}
use Rattle.shapes.specs.Forms.{rings_in}
use Rattle.snapping.specs.NearlyShared.Uses.{ring_uses}
use Rattle.snapping.proofs.nearly_shared.vertices.add_rings.Given as goal

abbrev pub invariant-loop-ring : goal.invariant-loop-ring
invariant-loop-ring l =
    l.uses.items ++ gathered (ring_uses l.fn.feature) l.ring-iterator ≡ l.fn.uses.items ++ gathered (ring_uses l.fn.feature) (rings_in l.fn.shape)
