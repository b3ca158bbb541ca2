use Rattle.std.proofs.Common.{◌≡◌, ◌++◌}
use Rattle.theory.specs.Lists.{gathered}
use Rattle.shapes.specs.Forms.{lines_in}
use Rattle.snapping.specs.NearlyShared.Uses.{line_uses}
use Rattle.snapping.proofs.nearly_shared.vertices.add_lines.Given as goal

abbrev pub invariant-loop-line : goal.invariant-loop-line
invariant-loop-line l =
    l.uses.items ++ gathered (line_uses l.fn.feature) l.line-iterator ≡ l.fn.uses.items ++ gathered (line_uses l.fn.feature) (lines_in l.fn.shape)
