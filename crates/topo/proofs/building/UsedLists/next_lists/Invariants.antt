use Rattle.std.proofs.Common.{◌≡◌, drop}
use Rattle.topo.specs.Taken.{taken}
use Rattle.topo.proofs.building.UsedLists.next_lists.Given as goal

abbrev pub invariant-loop : goal.invariant-loop
invariant-loop l = record {
  lists : l.lists.items ≡ taken l.counter l.fn.self;
  left : l.self ≡ drop l.counter l.fn.self;
}
