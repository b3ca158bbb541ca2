use Rattle.std.proofs.Common.{◌≡◌, drop}
use Rattle.std.specs.Cmp.Lexicographic.{slice_cmp}
use Rattle.topo.proofs.geometry_order.lists.each_order.Given as goal

abbrev pub invariant-loop-used : goal.invariant-loop-used
invariant-loop-used g l =
    slice_cmp (g.S.ByArcs.refs_cmp l.fn.view.arcs.now.arcs l.fn.view.least.now) (drop l.used-index l.fn.lists) l.left
    ≡ slice_cmp (g.S.ByArcs.refs_cmp l.fn.view.arcs.now.arcs l.fn.view.least.now) l.fn.lists l.fn.others
