use Rattle.std.proofs.Common.{◌≡◌, ◌≤◌, ◌+◌, length}
use Rattle.std.specs.List.{sum_by}
use Rattle.query.specs.Info.{free_count, one_if}
use Rattle.query.proofs.info.count_free.Given as goal

abbrev pub invariant-loop-is_free : goal.invariant-loop-is_free
invariant-loop-is_free l = record {
  summed : l.free + sum_by (λ a. one_if a.1) l.is_free-iterator ≡ free_count l.arcs;
  small : l.free + length l.is_free-iterator ≤ length l.initial.is_free-iterator;
}
