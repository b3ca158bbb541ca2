-- Equal neighbours in a list, where `eq` says which items are equal.
use Rattle.std.specs.Prelude.{Bool, true, false, cond, List, [], ◌∷◌}

-- the same where x is in front of the list
abbrev pub equal_from : {T : Type 0} → (T → T → Bool) → T → List T → Bool
equal_from eq x [] = false
equal_from eq x (y ∷ l) = cond (eq y x) true (equal_from eq y l)

-- whether two neighbours are equal
abbrev pub equal_neighbours : {T : Type 0} → (T → T → Bool) → List T → Bool
equal_neighbours eq [] = false
equal_neighbours eq (x ∷ l) = equal_from eq x l
