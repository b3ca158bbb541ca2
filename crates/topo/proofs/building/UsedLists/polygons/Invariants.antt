use Rattle.std.proofs.Common.{◌≡◌, ◌++◌, drop}
use Rattle.topo.specs.Taken.{polygons_left, polygons_taken}
use Rattle.topo.proofs.building.UsedLists.polygons.Given as goal

abbrev pub invariant-loop-rings : goal.invariant-loop-rings
invariant-loop-rings l = record {
  lists : l.lists.items ++ polygons_taken (drop l.rings-index l.fn.polygons) l.self ≡ polygons_taken l.fn.polygons l.fn.self;
  left : polygons_left (drop l.rings-index l.fn.polygons) l.self ≡ polygons_left l.fn.polygons l.fn.self;
}
