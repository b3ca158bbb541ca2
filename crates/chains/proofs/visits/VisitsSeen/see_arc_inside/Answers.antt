use Rattle.std.proofs.Common.{◌++◌, subst, OnOk}
use Rattle.chains.specs.Visits.{HaveSame, inner_of, around_of}
use Rattle.chains.specs.Noted.{visits_recorded}
use Rattle.chains.proofs.TablesAsMap.{of_loop}
use Rattle.chains.proofs.visits.VisitsSeen.see_arc_inside.Goals as goal

pub returns-in-Some-clause-visits : goal.returns-in-Some-clause-visits
returns-in-Some-clause-visits c =
    subst (λ w. OnOk c.see_ring.result (HaveSame (visits_recorded c.see_ring.new.self) (visits_recorded c.args.self.now ++ w)))
    (of_loop around_of (inner_of c.args.arc.now) c.args.free c.args.arc.now c.in-Some.ring.now c.in-Some.field-0-0.now c.if-not-free.false c.in-Some.ensures.cases.0)
    c.see_ring.ensures.visits
