use Rattle.normalize.proofs.ArcListsLemmas.RunningOn.{number_twice}
use Rattle.normalize.proofs.arc_lists.lists.ArcLists.uses_twice.Goals as goal

pub returns : goal.returns
returns c = λ t.
    number_twice _ c.in_ok-numbers.numbers.items c.sort_unstable.new.self.items c.deref.result.now c.in_ok-numbers.ensures c.sort_unstable.ensures.permutation
    c.sort_unstable.ensures.sorted c.deref.ensures.value c.has_equal_neighbours.result c.has_equal_neighbours.ensures t
