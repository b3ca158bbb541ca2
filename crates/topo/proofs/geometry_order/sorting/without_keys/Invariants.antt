use Rattle.std.proofs.Common.{◌≡◌, ◌++◌, map}
use Rattle.topo.specs.declared.geometry_order.sorting.Keyed.{Keyed}
use Rattle.topo.proofs.geometry_order.sorting.without_keys.Given as goal

abbrev pub invariant-loop-keyed : goal.invariant-loop-keyed
invariant-loop-keyed l = l.geometries.items ++ map (λ (k : Keyed). k.geometry) l.keyed-iterator.rest.items ≡ map (λ (k : Keyed). k.geometry) l.fn.sorted.items
