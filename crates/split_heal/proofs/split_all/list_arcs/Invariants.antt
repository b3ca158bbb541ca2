use Rattle.std.proofs.Common.{◌≡◌, ◌++◌, length, map}
use Rattle.theory.specs.Lists.{gathered}
use Rattle.arcs.specs.Placing.{whole_pieces}
use Rattle.split_heal.specs.Bounds.{bounds_of, ends_from}
use Rattle.split_heal.proofs.split_all.list_arcs.Given as goal

abbrev pub invariant-loop-table : goal.invariant-loop-table
invariant-loop-table l = record {
  arcs : l.arcs.items ++ gathered whole_pieces l.table-iterator.rest.items ≡ gathered whole_pieces l.fn.tables.items;
  begins : l.begins.items ++ ends_from (length l.arcs.items) (map whole_pieces l.table-iterator.rest.items) ≡ bounds_of (map whole_pieces l.fn.tables.items);
}
