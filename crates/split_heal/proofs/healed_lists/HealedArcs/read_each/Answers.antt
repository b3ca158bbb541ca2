use Rattle.split_heal.specs.Starts.{starts_by}
use Rattle.split_heal.proofs.NewLists.{one_read}
use Rattle.split_heal.proofs.healed_lists.HealedArcs.read_each.Goals as goal

pub loop-arc-preserved : goal.loop-arc-preserved
loop-arc-preserved c =
    one_read (starts_by c.args.self.now.pieces) c.args.used.now c.loop-arc.arc-index c.arc-item.result c.args.refs.now.items c.loop-arc.refs.items c.read.new.refs.items
    c.args.skip c.loop-arc.left c.in_ok-left.left c.loop-arc-test.true c.arc-item.is c.in_ok-left.ensures c.loop-arc.invariant
