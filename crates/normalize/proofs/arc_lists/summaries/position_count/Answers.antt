use Rattle.std.proofs.Common.{arith}
use Rattle.normalize.proofs.ArcListsLemmas.Making.{count_first}
use Rattle.normalize.proofs.arc_lists.summaries.position_count.Goals as goal

pub loop-next-init : goal.loop-next-init
loop-next-init c = record {
  within = omega arith;
  left = count_first c.in-Some.first.now c.in-Some.others.now c.args.positions.now c.in-Some.ensures.cases.0;
}
