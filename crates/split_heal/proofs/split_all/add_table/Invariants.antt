use Rattle.std.proofs.Common.{◌≡◌, ◌≤◌, ◌+◌, ◌-◌, ◌++◌, length}
use Rattle.theory.specs.Lists.{joined}
use Rattle.split_heal.specs.Bounds.{bounds_of, ends_from}
use Rattle.split_heal.specs.Cutting.{pieces_from}
use Rattle.split_heal.proofs.split_all.add_table.Given as goal

abbrev pub invariant-loop-arc : goal.invariant-loop-arc
invariant-loop-arc l = record {
  left : l.number + length l.arc-iterator.rest.items ≡ length l.fn.arcs.items;
  later : l.before ≤ length l.pieces.items;
  pieces : l.pieces.items ++ joined (pieces_from l.fn.index l.fn.marks l.number l.arc-iterator.rest.items) ≡ l.fn.pieces.items ++ joined (pieces_from l.fn.index l.fn.marks 0 l.fn.arcs.items);
  bounds : l.bounds.items ++ ends_from (length l.pieces.items - l.before) (pieces_from l.fn.index l.fn.marks l.number l.arc-iterator.rest.items)
      ≡ bounds_of (pieces_from l.fn.index l.fn.marks 0 l.fn.arcs.items);
}
