use Rattle.std.proofs.Common.{◌≡◌, drop}
use Rattle.std.specs.List.{list_any}
use Rattle.lines.specs.PositionFilter.{may_hold}
use Rattle.chains.proofs.repeats.Repeats.may_repeat.Given as goal

abbrev pub invariant-loop-position : goal.invariant-loop-position
invariant-loop-position l = list_any (may_hold l.fn.self.again) (drop l.position-index l.positions) ≡ list_any (may_hold l.fn.self.again) l.fn.positions
