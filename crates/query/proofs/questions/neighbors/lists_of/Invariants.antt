use Rattle.std.proofs.Common.{◌≡◌, drop, map, replicate, []}
use Rattle.query.specs.ArcUsers.{with_indexes}
use Rattle.query.proofs.questions.neighbors.lists_of.Given as goal

abbrev pub invariant-loop-used : goal.invariant-loop-used
invariant-loop-used l =
    with_indexes l.fn.classes l.fn.users (map (λ v. v.items) l.lists.items) (drop l.used-index l.fn.uses)
    ≡ with_indexes l.fn.classes l.fn.users (replicate l.fn.count []) l.fn.uses
