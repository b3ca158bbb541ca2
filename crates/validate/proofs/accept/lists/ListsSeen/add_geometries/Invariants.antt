use Rattle.std.proofs.Common.{◌≡◌, Bool, drop, length}
use Rattle.validate.specs.Accept.Added.{AreAdded}
use Rattle.validate.specs.Accept.Lists.{lines_of, rings_of}
use Rattle.validate.specs.declared.accept.lists.ListsSeen.{ListsSeen}
use Rattle.validate.proofs.accept.lists.ListsSeen.add_geometries.Given as goal

abbrev pub invariant-loop-geometry : goal.invariant-loop-geometry
invariant-loop-geometry l = record {
  len : length l.self.used ≡ length l.fn.table.arcs;
  rest : (b : Bool) (s : ListsSeen) → AreAdded l.fn.table (lines_of (drop l.geometry-index l.fn.geometries)) (rings_of (drop l.geometry-index l.fn.geometries)) b l.self s → AreAdded l.fn.table (lines_of l.fn.geometries) (rings_of l.fn.geometries) b l.fn.self s;
}
