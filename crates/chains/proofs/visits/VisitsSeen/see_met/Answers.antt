use Rattle.std.proofs.Common.{◌∙◌, ap, sym}
use Rattle.std.specs.List.{list_any}
use Rattle.chains.specs.VertexFilter.{may_hold}
use Rattle.chains.specs.Noted.{visits_recorded}
use Rattle.chains.proofs.Apart.{apart_inside, no_visits}
use Rattle.chains.proofs.visits.VisitsSeen.see_met.Goals as goal
use Rattle.chains.proofs.visits.VisitsSeen.see_met.Goals.{then-not-near-via-then-not-near, then-not-near-via-else-not-near+then-not-may_meet}

pub returns-then-not-near-clause-met : goal.returns-then-not-near-clause-met
returns-then-not-near-clause-met c =
    let may = may_hold c.args.other.now in
    elim c.then-not-near.branch [
      | then-not-near-via-then-not-near w ↦ sym (apart_inside may c.args.free c.args.arc.now (c.requires w.if-not-near.true))
      | then-not-near-via-else-not-near+then-not-may_meet w ↦ w.if-not-may_meet.ensures ∙ ap (list_any may) w.inside.ensures
    ]

pub returns-then-not-near-clause-visits : goal.returns-then-not-near-clause-visits
returns-then-not-near-clause-visits c = no_visits (may_hold c.args.other.now) c.args.free c.args.arc.now (visits_recorded c.args.self.now) (sym (returns-then-not-near-clause-met c))
