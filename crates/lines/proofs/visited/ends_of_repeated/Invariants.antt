use Rattle.std.proofs.Common.{drop}
use Rattle.lines.proofs.Retracing.{IsGone}
use Rattle.lines.proofs.visited.ends_of_repeated.Given as goal

abbrev pub invariant-loop-next : goal.invariant-loop-next
invariant-loop-next l = IsGone l.way l.ends.items l.fn.positions (drop l.next-index l.others)
