use Rattle.std.proofs.Common.{drop}
use Rattle.lines.specs.PositionFilter.{may_hold}
use Rattle.lines.proofs.Marking.{AreLeft}
use Rattle.lines.proofs.position_filter.PositionFilter.mark_all.Given as goal

abbrev pub invariant-loop-position : goal.invariant-loop-position
invariant-loop-position l = AreLeft (may_hold l.fn.self) (may_hold l.self) l.fn.positions (drop l.position-index l.positions)
