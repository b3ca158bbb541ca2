-- Pairs of a vertex and the next one in a closed list.
use Rattle.std.specs.Prelude.{◌≡◌, ℕ, ◌+◌, ◌<◌, false, List, length, take, drop}
use Rattle.std.specs.declared.cmp.Ordering.{Ordering}
use Rattle.std.specs.Ordering.{is_lt}
use Rattle.std.specs.Cmp.Lexicographic.{slice_cmp}

-- the vertex at place k and the next one
abbrev pub window : {V : Type 0} → List V → ℕ → List V
window l k = take 2 (drop k l)

-- no pair of a vertex and the next one comes before the pair at place i
pub record IsLeastStart {V : Type 0} (cmp : V → V → Ordering) (l : List V) (i : ℕ) : Type 0 where
  pub within : i + 1 < length l
  pub least : (k : ℕ) → k + 1 < length l → is_lt (slice_cmp cmp (window l k) (window l i)) ≡ false
