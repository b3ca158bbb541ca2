use Rattle.chains.proofs.Sharing.{not_held}
use Rattle.chains.proofs.stop_set.StopSet.has.Goals as goal

pub returns-else-may_hold : goal.returns-else-may_hold
returns-else-may_hold c = not_held c.self.inside.bits _ _ c.args.p _ c.self.view_is c.may_hold.ensures c.if-may_hold.false c.self.invariant
