use Rattle.std.proofs.Common.{◌≡◌, ◌++◌, length}
use Rattle.compare.specs.Quality.Uses.{line_uses, places_uses}
use Rattle.compare.proofs.quality.uses.add_line.Given as goal

abbrev pub invariant-loop-place : goal.invariant-loop-place
invariant-loop-place l =
    l.uses.items ++ places_uses l.fn.feature l.walk ≡ l.fn.uses.items ++ line_uses l.fn.topology.arcs.arcs l.fn.feature l.fn.refs

abbrev pub decreases-loop-place : goal.decreases-loop-place
decreases-loop-place l = length l.walk
