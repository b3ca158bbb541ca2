use Rattle.std.proofs.Common.{◌≡◌, drop, replicate, None}
use Rattle.query.specs.Spans.{with_uses}
use Rattle.query.proofs.spans.spans_by.Given as goal

abbrev pub invariant-loop-used : goal.invariant-loop-used
invariant-loop-used l = with_uses l.spans.items (drop l.used-index l.fn.uses) ≡ with_uses (replicate l.fn.arcs None) l.fn.uses
