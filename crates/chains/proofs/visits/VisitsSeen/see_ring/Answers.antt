use Rattle.std.proofs.Common.{◌∷◌, [], ◌++◌, ◌∙◌, length, refl, sym, arith}
use Rattle.lines.proofs.Dropping.{item_at}
use Rattle.chains.specs.Noted.{recorded_in, visits_recorded}
use Rattle.chains.specs.Visits.{around_of, inner_of}
use Rattle.chains.proofs.RecordedIndexes.{seam_recorded}
use Rattle.chains.proofs.Rounds.{around_seen, two_recorded}
use Rattle.chains.proofs.visits.VisitsSeen.see_ring.Goals as goal

pub returns-clause-visits : goal.returns-clause-visits
returns-clause-visits c =
    let r = c.args.ring.now in
    let seen = c.see_inside.new.self in
    two_recorded (visits_recorded c.args.self.now) (inner_of r) (around_of r) (visits_recorded seen) (recorded_in seen.inner.items c.push.new.self.items) (recorded_in seen.inner.items c.push-2.new.self.items)
    c.visit_between.result c.visit_between-2.result c.in_ok-see_inside.ensures.visits
    (seam_recorded seen.inner.items seen.seams.items c.push.new.self.items c.visit_between.result c.in_ok-push.ensures.items)
    (seam_recorded seen.inner.items c.push.new.self.items c.push-2.new.self.items c.visit_between-2.result c.in_ok-push-2.ensures.items)
    (around_seen r (length r) _ _ _ _ refl (omega (arith, c.if-count-lt2.false))
    (item_at r _ _ (omega (arith, c.if-count-lt2.false)) c.index-ring-count-2.is) (item_at r _ _ (omega (arith, c.if-count-lt2.false)) c.index-ring-count.is)
    (item_at r _ _ (omega (arith, c.if-count-lt2.false)) c.index-ring-0.is) (item_at r _ _ (omega (arith, c.if-count-lt2.false)) c.index-ring-1.is)
    ∙ (λ i. inner_of r ++ (sym c.visit_between.ensures i ∷ (sym c.visit_between-2.ensures i ∷ []))))
