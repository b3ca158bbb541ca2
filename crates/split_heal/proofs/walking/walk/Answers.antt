use Rattle.std.proofs.Common.{rules, subst, sym}
use Rattle.split_heal.specs.PseudoNodes.{partner_in}
use Rattle.split_heal.specs.Walks.{Walk}
use Rattle.split_heal.proofs.WalkedRuns.{walk_alone, walk_over}
use Rattle.split_heal.proofs.walking.walk.Goals as goal

pub returns : goal.returns
returns c =
    subst (λ r. Walk (partner_in c.args.meeting.now) c.args.left.now c.args.from r c.loop-next.left) (sym c.of.ensures)
    (walk_over (partner_in c.args.meeting.now) c.args.left.now c.loop-next.left c.args.from c.loop-next.run.items c.loop-next.next (search rules) c.loop-next.invariant)

pub returns-then-is_none : goal.returns-then-is_none
returns-then-is_none c =
    walk_alone (partner_in c.args.meeting.now) c.args.left.now c.take_next-next.new.left c.args.from c.one.result c.take_next-next.result
    (search rules) c.one.ensures c.take_next-next.ensures.goes
