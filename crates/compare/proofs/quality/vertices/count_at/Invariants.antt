use Rattle.std.proofs.Common.{◌≡◌, ◌+◌, drop}
use Rattle.lines.specs.ByVertex.{count_at}
use Rattle.compare.proofs.quality.vertices.count_at.Given as goal

abbrev pub invariant-loop-i : goal.invariant-loop-i
invariant-loop-i l = l.i + count_at (λ u. u.at) l.fn.at (drop l.i l.fn.uses) ≡ count_at (λ u. u.at) l.fn.at l.fn.uses
