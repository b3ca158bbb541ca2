use Rattle.decimal_topologies.specs.Stitching.{directed}
use Rattle.decimal_topologies.proofs.Stitches.{Put}
use Rattle.decimal_topologies.proofs.stitching.put_along.Given as goal

abbrev pub invariant-loop-i : goal.invariant-loop-i
invariant-loop-i l = Put (directed l.backwards l.places) l.first l.i l.initial.found.items l.found.items l.initial.tally l.tally
