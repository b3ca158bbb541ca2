use Rattle.std.proofs.Common.{◌≡◌, [], replicate}
use Rattle.split_heal.specs.HealedArcs.{put_all}
use Rattle.split_heal.proofs.healed_arcs.by_numbers.Given as goal

abbrev pub invariant-loop-list : goal.invariant-loop-list
invariant-loop-list l = put_all l.left l.list-iterator.rest.items l.placed.items ≡ put_all l.fn.refs l.fn.lists.items (replicate l.fn.count [])
