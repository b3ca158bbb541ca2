use Rattle.chains.proofs.Search.{looked_up}
use Rattle.chains.proofs.Sharing.{not_held}
use Rattle.chains.proofs.visits.VisitIndex.has.Goals as goal

pub returns-then-may_hold : goal.returns-then-may_hold
returns-then-may_hold c =
    looked_up _ _ _ c.args.p _ _ c.self.view_is c.deref.ensures.value c.is_ok.ensures.value c.binary_search.ensures.bound c.binary_search.ensures.position
    c.self.invariant.sorted

pub returns-else-may_hold : goal.returns-else-may_hold
returns-else-may_hold c = not_held c.self.inside.bits _ _ c.args.p _ c.self.view_is c.may_hold.ensures c.if-may_hold.false c.self.invariant.held
