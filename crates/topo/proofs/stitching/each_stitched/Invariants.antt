use Rattle.std.proofs.Common.{◌≡◌, ◌++◌, List, drop}
use Rattle.theory.specs.Lists.{Pairwise}
use Rattle.topo.proofs.stitching.each_stitched.Given as goal

abbrev pub invariant-loop-used : goal.invariant-loop-used
invariant-loop-used g l =
    (ss : List g.row.S.Denot) → Pairwise (g.S.Stitch.stitches_by l.fn.arcs.arcs) ss l.fn.lists → l.made.items ++ drop l.used-index ss ≡ ss
