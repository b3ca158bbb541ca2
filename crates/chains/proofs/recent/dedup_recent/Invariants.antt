use Rattle.std.proofs.Common.{◌++◌, drop}
use Rattle.chains.specs.Visits.{HaveSame}
use Rattle.chains.proofs.recent.dedup_recent.Given as goal

abbrev pub invariant-loop-position : goal.invariant-loop-position
invariant-loop-position l = HaveSame (l.recorded.positions.items ++ drop l.position-index l.positions) l.positions
