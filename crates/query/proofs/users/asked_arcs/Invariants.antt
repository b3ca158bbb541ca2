use Rattle.std.proofs.Common.{◌≡◌, ◌++◌, drop}
use Rattle.query.specs.Spans.{numbers_from}
use Rattle.query.proofs.users.asked_arcs.Given as goal

abbrev pub invariant-loop-number : goal.invariant-loop-number
invariant-loop-number l = l.asked.items ++ numbers_from l.fn.edges l.number (drop l.number l.fn.spans) ≡ numbers_from l.fn.edges 0 l.fn.spans
