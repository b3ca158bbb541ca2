use Rattle.std.proofs.Common.{◌≡◌, ℕ, ◌+◌, ◌^◌, ◌<◌, List, ◌++◌, length, take}
use Rattle.fault_reports.specs.LineColumns.{place_behind}
use Rattle.fault_reports.proofs.line_columns.place_after.Given as goal

abbrev pub invariant-loop-byte : goal.invariant-loop-byte
invariant-loop-byte l = (text : List ℕ) → length text + length l.bytes < 2 ^ 63 → l.fn.place ≡ place_behind text → l.place ≡ place_behind (text ++ take l.byte-index l.bytes)
