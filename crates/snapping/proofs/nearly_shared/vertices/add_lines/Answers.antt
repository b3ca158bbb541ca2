use Rattle.std.proofs.Common.{◌++◌, ap, ◌∙◌}
use Rattle.theory.specs.Lists.{gathered}
use Rattle.snapping.specs.NearlyShared.Uses.{line_uses}
use Rattle.snapping.proofs.nearly_shared.vertices.add_lines.Goals as goal

pub loop-line-init : goal.loop-line-init
loop-line-init c =
    ap (λ ls. c.args.uses.now.items ++ gathered (line_uses c.args.feature) ls) (c.into_iter-line-iterator.ensures.into_iter_gives ∙ c.lines-line-items.ensures)
