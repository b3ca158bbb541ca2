use Rattle.decimal_faults.proofs.Heights.{Counted}
use Rattle.decimal_faults.proofs.position.count_heights.Given as goal

abbrev pub invariant-loop-i : goal.invariant-loop-i
invariant-loop-i l = Counted l.grid l.values l.i l.initial.tally l.tally
