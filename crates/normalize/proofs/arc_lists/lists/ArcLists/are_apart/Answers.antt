use Rattle.normalize.proofs.ArcListsLemmas.RunningOn.{numbers_apart}
use Rattle.normalize.proofs.arc_lists.lists.ArcLists.are_apart.Goals as goal

pub returns : goal.returns
returns c = λ t.
    numbers_apart _ c.in_ok-labels.labels.items c.sort_unstable.new.self.items c.deref.result.now c.in_ok-labels.ensures c.sort_unstable.ensures.permutation
    c.sort_unstable.ensures.sorted c.deref.ensures.value c.has_equal_neighbours.result c.has_equal_neighbours.ensures _ c.is_empty.result c.in_ok-labels.labels.ok.0
    c.is_empty.ensures c.if-is_empty.false t
