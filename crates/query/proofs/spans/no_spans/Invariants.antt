use Rattle.std.proofs.Common.{◌≡◌, replicate, None}
use Rattle.query.proofs.spans.no_spans.Given as goal

abbrev pub invariant-loop : goal.invariant-loop
invariant-loop l = l.spans.items ≡ replicate l.counter None
