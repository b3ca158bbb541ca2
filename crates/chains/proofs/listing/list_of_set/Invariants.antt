use Rattle.std.proofs.Common.{◌≡◌, ◌++◌}
use Rattle.chains.proofs.listing.list_of_set.Given as goal

abbrev pub invariant-loop-item : goal.invariant-loop-item
invariant-loop-item g l = l.list.items ++ l.item-iterator ≡ l.set.keys
