use Rattle.decimal_topologies.proofs.Stitches.{Stitched}
use Rattle.decimal_topologies.proofs.stitching.stitch.Given as goal

abbrev pub invariant-loop-i : goal.invariant-loop-i
invariant-loop-i l = Stitched l.arcs l.values l.i l.found.items l.initial.tally l.tally
