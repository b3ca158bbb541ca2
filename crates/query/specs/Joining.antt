-- Which arcs are chosen, as a mark for each.
use Rattle.std.specs.Prelude.{ℕ, Bool, true, List, [], ◌∷◌, set}

-- the marks with that of one number more
abbrev pub with_mark : List Bool → ℕ → List Bool
with_mark ms k = set ms k true

-- and with those of each number in turn
abbrev pub with_marks : List Bool → List ℕ → List Bool
with_marks ms [] = ms
with_marks ms (k ∷ ks) = with_marks (with_mark ms k) ks
