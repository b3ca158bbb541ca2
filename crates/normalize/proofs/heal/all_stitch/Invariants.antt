use Rattle.std.proofs.Common.{◌≡◌, ◌+◌, drop, length}
use Rattle.normalize.proofs.Numbered.{StitchBefore}
use Rattle.normalize.proofs.heal.all_stitch.Given as goal

abbrev pub invariant-loop-arc : goal.invariant-loop-arc
invariant-loop-arc l = record {
  left : drop l.number l.fn.joined.arcs.arcs ≡ l.arc-iterator;
  within : l.number + length l.arc-iterator ≡ length l.fn.joined.arcs.arcs;
  stitch : StitchBefore l.fn.table.arcs l.fn.joined.arcs.arcs l.fn.joined.pieces l.number;
}
