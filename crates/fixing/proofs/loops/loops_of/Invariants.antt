use Rattle.std.proofs.Common.{◌≡◌, drop}
use Rattle.fixing.specs.Loops.{loops_of}
use Rattle.fixing.specs.Walks.{IsRecorded, loops_left}
use Rattle.fixing.proofs.loops.loops_of.Given as goal

-- what is left are the loops of the whole
abbrev pub invariant-loop-position : goal.invariant-loop-position
invariant-loop-position l = record { noted : IsRecorded l.walk; left : loops_left l.walk (drop l.position-index l.closed) ≡ loops_of l.fn.closed }
