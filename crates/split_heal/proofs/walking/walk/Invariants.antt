use Rattle.std.proofs.Common.{◌≡◌, ◌∷◌, ◌++◌, ◌+◌, List, Bool}
use Rattle.theory.specs.ArcNumbers.{ArcRef}
use Rattle.split_heal.specs.PseudoNodes.{partner_in}
use Rattle.split_heal.specs.Walks.{Goes, GoesOn, count_left, some_one}
use Rattle.split_heal.proofs.walking.walk.Given as goal

abbrev pub invariant-loop-next : goal.invariant-loop-next
invariant-loop-next l =
    (done : List ArcRef) × (l.run.items ≡ l.fn.from ∷ done) ×
    ((more : List ArcRef) (after : List Bool) → GoesOn (partner_in l.meeting) l.left l.next more after →
    Goes (partner_in l.meeting) l.fn.left l.fn.from (done ++ more) after)

abbrev pub decreases-loop-next : goal.decreases-loop-next
decreases-loop-next l = count_left l.left + some_one l.next
