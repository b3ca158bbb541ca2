use Rattle.normalize.proofs.ArcListsLemmas.Making.{all_counted}
use Rattle.normalize.proofs.arc_lists.lists.ArcLists.segment_count.Goals as goal

pub returns : goal.returns
returns c =
    all_counted c.args.self.now.summaries.items c.args.used.now c.loop-arc.count 18446744073709551615 c.loop-arc.arc-index c.loop-arc-test.false c.loop-arc.invariant.within
    c.loop-arc.invariant.sum
