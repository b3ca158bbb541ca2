-- The numbers of the arcs that stay.
use Rattle.std.specs.Prelude.{ℕ, ◌+◌, Bool, cond, List, [], ◌∷◌}

-- the numbers of the marks that are set, where the first mark has the number i
abbrev pub kept_numbers : ℕ → List Bool → List ℕ
kept_numbers i [] = []
kept_numbers i (b ∷ bs) = cond b (i ∷ kept_numbers (i + 1) bs) (kept_numbers (i + 1) bs)
