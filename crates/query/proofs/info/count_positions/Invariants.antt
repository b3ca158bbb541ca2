use Rattle.std.proofs.Common.{◌≡◌, ◌≤◌, ◌+◌, ◌*◌, ◌^◌, length}
use Rattle.std.specs.List.{sum_by}
use Rattle.query.proofs.info.count_positions.Given as goal

abbrev pub invariant-loop-arc : goal.invariant-loop-arc
invariant-loop-arc l = record {
  summed : l.positions + sum_by length l.arc-iterator ≡ sum_by length l.arcs.arcs;
  small : l.positions + length l.arc-iterator * 2 ^ 64 ≤ length l.initial.arc-iterator * 2 ^ 64;
}
