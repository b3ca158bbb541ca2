use Rattle.std.proofs.Common.{◌≡◌, ◌++◌, map}
use Rattle.theory.specs.Lists.{gathered}
use Rattle.topo.specs.Building.{count_of}
use Rattle.topo.proofs.cuts.Cuts.add_each.Given as goal

abbrev pub invariant-loop-item : goal.invariant-loop-item
invariant-loop-item g l = record {
  pieces : l.self.pieces.items ++ gathered (g.C.CutIntoArcs.pieces l.fn.index) (map g.C.CutIntoArcs.positions l.item-iterator)
      ≡ l.fn.self.pieces.items ++ gathered (g.C.CutIntoArcs.pieces l.fn.index) (map g.C.CutIntoArcs.positions l.fn.items);
  counts : l.self.counts.items ++ gathered (count_of (g.C.CutIntoArcs.pieces l.fn.index)) (map g.C.CutIntoArcs.positions l.item-iterator)
      ≡ l.fn.self.counts.items ++ gathered (count_of (g.C.CutIntoArcs.pieces l.fn.index)) (map g.C.CutIntoArcs.positions l.fn.items);
}
