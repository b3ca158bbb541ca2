use Rattle.std.proofs.Common.{◌≡◌, ◌++◌}
use Rattle.theory.specs.Lists.{gathered}
use Rattle.topo.specs.BodyLists.{body_lists}
use Rattle.compare.specs.Quality.Uses.{line_uses}
use Rattle.compare.proofs.quality.uses.add_lists.Given as goal

abbrev pub invariant-loop-refs : goal.invariant-loop-refs
invariant-loop-refs l =
    l.uses.items ++ gathered (line_uses l.fn.topology.arcs.arcs l.fn.feature) l.refs-iterator
    ≡ l.fn.uses.items ++ gathered (line_uses l.fn.topology.arcs.arcs l.fn.feature) (body_lists l.fn.body)
