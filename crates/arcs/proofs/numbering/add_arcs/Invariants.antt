use Rattle.std.proofs.Common.{◌≡◌, ◌++◌, length, map}
use Rattle.std.specs.Option.{option_map}
use Rattle.theory.specs.Lists.{Has}
use Rattle.arcs.specs.Keys.{key_of}
use Rattle.arcs.specs.Placing.{arcs_of, piece_of}
use Rattle.arcs.specs.Stored.{merged, merged_behind, stored_of}
use Rattle.arcs.specs.declared.numbering.Placed.{Placed}
use Rattle.arcs.proofs.PlacedPieces.{LeftOrPut}
use Rattle.arcs.proofs.numbering.add_arcs.Given as goal

abbrev pub invariant-loop-placed : goal.invariant-loop-placed
invariant-loop-placed l = record {
  all : l.arcs ++ merged_behind l.last (map stored_of (map piece_of l.placed-iterator.rest.items)) ≡ merged (map stored_of (map piece_of l.fn.pieces.items));
  key : l.last_key ≡ option_map (λ a. key_of a.positions) l.last;
  len : length l.refs.items ≡ length l.fn.pieces.items;
  there : (y : Placed) → Has y l.placed-iterator.rest.items → Has y l.fn.pieces.items;
  put : (y : Placed) → Has y l.fn.pieces.items → LeftOrPut (arcs_of l.fn.pieces.items) l.placed-iterator.rest.items l.refs.items y;
}
