use Rattle.std.proofs.Common.{◌∙◌}
use Rattle.topo.proofs.TakenInOrder.{left_next, taken_next}
use Rattle.topo.proofs.building.UsedLists.next_lists.Goals as goal

pub loop-preserved : goal.loop-preserved
loop-preserved c = record {
  lists = c.in_ok-push.ensures.items
      ∙ taken_next c.loop.counter c.args.self.now c.loop.self c.loop.lists.items c.in_ok-next_list.field-0 c.loop.invariant.lists c.loop.invariant.left c.in_ok-next_list.ensures.list;
  left = c.in_ok-next_list.ensures.left ∙ left_next c.loop.counter c.args.self.now c.loop.self c.loop.invariant.left;
}
