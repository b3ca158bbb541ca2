use Rattle.std.proofs.Common.{◌++◌, ap, ◌∙◌}
use Rattle.theory.specs.Lists.{gathered}
use Rattle.snapping.specs.NearlyShared.Uses.{ring_uses}
use Rattle.snapping.proofs.nearly_shared.vertices.add_rings.Goals as goal

pub loop-ring-init : goal.loop-ring-init
loop-ring-init c =
    ap (λ ls. c.args.uses.now.items ++ gathered (ring_uses c.args.feature) ls) (c.into_iter-ring-iterator.ensures.into_iter_gives ∙ c.rings-ring-items.ensures)
