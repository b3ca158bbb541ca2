use Rattle.std.proofs.Common.{◌≡◌, drop}
use Rattle.validate.specs.RingStarts.{none_starts}
use Rattle.validate.proofs.ring_starts.none_starts.Given as goal

abbrev pub invariant-loop-used : goal.invariant-loop-used
invariant-loop-used l = none_starts l.fn.table.arcs l.fn.start (drop l.used-index l.fn.refs) ≡ none_starts l.fn.table.arcs l.fn.start l.fn.refs
