use Rattle.std.proofs.Common.{◌≡◌, ℕ, ◌<◌, ◌≤◌, All, List, get_or, length, take, vec_len}
use Rattle.std.specs.List.Sorted.{IsNonDecreasingBy}
use Rattle.fault_reports.specs.LineColumns.{IsNumbered, IsPlacedIn, offset_of, place_behind}
use Rattle.fault_reports.proofs.line_columns.places_in_order.Given as goal

abbrev pub invariant-loop-offset : goal.invariant-loop-offset
invariant-loop-offset l = record {
  len : vec_len l.places ≡ length l.sorted;
  within : l.passed ≤ length l.text;
  here : l.here ≡ place_behind (take l.passed l.text);
  passed : IsNonDecreasingBy offset_of l.sorted → (d : ℕ × ℕ) → l.offset-index < length l.sorted → l.passed ≤ (get_or l.sorted l.offset-index d).0;
  places : (offsets : List ℕ) → All (IsNumbered offsets) l.sorted → IsNonDecreasingBy offset_of l.sorted → All (IsPlacedIn l.text l.places.items) (take l.offset-index l.sorted);
}
