use Rattle.std.proofs.Common.{◌≡◌, ◌<◌, ◌≤◌, ◌++◌, length, false, map, drop, slice_range}
use Rattle.arcs.specs.Among.{among}
use Rattle.chains.specs.Pieces.{cut_inside_from, open_pieces}
use Rattle.arcs.specs.Pieces.{piece_along}
use Rattle.chains.proofs.cutting.cut_inside.Given as goal

abbrev pub invariant-loop-i : goal.invariant-loop-i
invariant-loop-i g l = record {
  before : l.begin < l.i;
  within : l.begin ≤ length l.line;
  pieces : l.pieces.items ++ map (piece_along false) (cut_inside_from (among (g.S.Stops.at l.stops)) (slice_range l.line l.begin l.i) (drop l.i l.line)) ≡ open_pieces (among (g.S.Stops.at l.stops)) l.line;
}
