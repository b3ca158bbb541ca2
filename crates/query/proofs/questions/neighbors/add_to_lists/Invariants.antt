use Rattle.std.proofs.Common.{◌≡◌, drop, map}
use Rattle.query.specs.ArcUsers.{with_index_in}
use Rattle.query.proofs.questions.neighbors.add_to_lists.Given as goal

abbrev pub invariant-loop-user : goal.invariant-loop-user
invariant-loop-user l =
    with_index_in l.fn.index (map (λ v. v.items) l.lists.items) (drop l.user-index l.fn.users) ≡ with_index_in l.fn.index (map (λ v. v.items) l.fn.lists.items) l.fn.users
