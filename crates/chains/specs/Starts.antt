-- Where the cut of a ring begins.
use Rattle.std.specs.Prelude.{ℕ, ◌+◌, Bool, not, cond, List, [], ◌∷◌}
use Rattle.std.specs.Ordering.{is_lt, bool_cmp, ordering_then}
use Rattle.std.specs.declared.cmp.Ordering.{Ordering}
use Rattle.grid.specs.declared.pos.Pos.{Pos}
use Rattle.lines.specs.Turned.{position_cmp}
use Rattle.chains.specs.declared.starts.RingStart.{RingStart}

-- a vertex with the next one, and whether the cut passes it
abbrev pub start_of : (Pos → Bool) → Pos → Pos → RingStart
start_of stop a b = record { passed = not (stop a); from = a; to = b }

-- stops first, then by the vertex, then by the next one
abbrev pub start_cmp : RingStart → RingStart → Ordering
start_cmp s t = ordering_then (bool_cmp s.passed t.passed) (ordering_then (position_cmp s.from t.from) (position_cmp s.to t.to))

-- each vertex with the one after it, the last with the first
abbrev pub starts_from : (Pos → Bool) → Pos → Pos → List Pos → List RingStart
starts_from stop first here [] = start_of stop here first ∷ []
starts_from stop first here (next ∷ rest) = start_of stop here next ∷ starts_from stop first next rest

-- the place of the first least start, where the list goes on at place i
abbrev pub least_from : ℕ → RingStart → ℕ → List RingStart → ℕ
least_from best least i [] = best
least_from best least i (s ∷ l) = least_from (cond (is_lt (start_cmp s least)) i best) (cond (is_lt (start_cmp s least)) s least) (i + 1) l

-- the place of the ring's least junction, or of its least vertex where it has no junction
abbrev pub start_index : (Pos → Bool) → List Pos → ℕ
start_index stop [] = 0
start_index stop (x ∷ []) = 0
start_index stop (x ∷ (y ∷ r)) = least_from 0 (start_of stop x y) 1 (starts_from stop x y r)
