use Rattle.std.proofs.Common.{◌≡◌, ◌++◌, ap, map, subst, slice_get, Some}
use Rattle.chains.specs.Noted.{visits_at, visits_recorded}
use Rattle.chains.specs.Visits.{inner_of}
use Rattle.chains.proofs.RecordedIndexes.{recorded_before, recorded_more}
use Rattle.chains.proofs.Same.{same_equal, same_trans}
use Rattle.chains.proofs.visits.VisitsSeen.insert.Goals.{in-Some-place+else-is_same_at, in_default-place}
use Rattle.chains.proofs.visits.VisitsSeen.insert.Goals as goal

pub returns-in-Some-clause-visits : goal.returns-in-Some-clause-visits
returns-in-Some-clause-visits c =
    recorded_before c.args.self.now.inner.items c.args.self.now.seams.items c.in-Some.index (inner_of c.args.window.now) c.in-Some.ensures

pub returns-then-is_same_at-clause-visits : goal.returns-then-is_same_at-clause-visits
returns-then-is_same_at-clause-visits c =
    recorded_before c.args.self.now.inner.items c.args.self.now.seams.items c.in-Some-place.place.now (inner_of c.args.window.now)
    (subst (λ l. slice_get (map visits_at l) c.in-Some-place.place.now ≡ Some (inner_of c.args.window.now)) c.deref.ensures.value
    (c.is_same_at.ensures.0 c.if-is_same_at.true))

pub returns-clause-visits : goal.returns-clause-visits
returns-clause-visits c =
    same_trans (recorded_more c.match-place.self.inner.items c.push.new.self.items c.match-place.self.seams.items c.args.window c.in_ok-push.ensures.items)
    (same_equal (ap (λ l. l ++ inner_of c.args.window.now) (elim c.match-place.branch [
      | in-Some-place+else-is_same_at w ↦ ap visits_recorded w.self-is
      | in_default-place w ↦ ap visits_recorded w.self-is
    ])))
