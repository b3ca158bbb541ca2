use Rattle.std.proofs.Common.{◌≡◌, drop}
use Rattle.fixing.specs.Cutting.{runs_left}
use Rattle.fixing.proofs.runs.runs_of.Given as goal

-- what is left is what was left at first
abbrev pub invariant-loop-next : goal.invariant-loop-next
invariant-loop-next l = runs_left l.way (drop l.next-index l.others) ≡ runs_left l.initial.way l.initial.others
