use Rattle.std.proofs.Common.{◌≡◌, ℕ, ◌<◌, get_or, vec_len}
use Rattle.fault_reports.proofs.line_columns.line_columns.Given as goal

abbrev pub invariant-loop-number : goal.invariant-loop-number
invariant-loop-number l = record {
  len : vec_len l.sorted ≡ l.number;
  each : (k : ℕ) → k < l.number → get_or l.sorted.items k (0, 0) ≡ (get_or l.offsets k 0, k);
}
