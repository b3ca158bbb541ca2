-- Lists that are one after another in one list, and the places where they begin and end.
use Rattle.std.specs.Prelude.{ℕ, ◌+◌, ◌≤◌, List, [], ◌∷◌, length, slice_get, unwrap_or}
use Rattle.std.specs.List.{between}

-- the parts of a list that begin at n and then where the one before ends, and end at these places
abbrev pub parts_from : {A : Type 0} → ℕ → List ℕ → List A → List (List A)
parts_from n [] l = []
parts_from n (e ∷ es) l = between n e l ∷ parts_from e es l

-- the parts of a list between neighbouring bounds
abbrev pub parts_between : {A : Type 0} → List ℕ → List A → List (List A)
parts_between [] l = []
parts_between (b ∷ bs) l = parts_from b bs l

-- places from n on, none before the one in front of it and none past the end
abbrev pub AreEnds : ℕ → List ℕ → ℕ → Type 0
AreEnds n [] end = n ≤ end
AreEnds n (e ∷ es) end = (n ≤ e) × AreEnds e es end

-- places of which none comes before the one in front of it, and none past the end
abbrev pub AreBounds : List ℕ → ℕ → Type 0
AreBounds [] end = Unit {0}
AreBounds (b ∷ bs) end = AreEnds b bs end

-- where lists end of which the first begins at n
abbrev pub ends_from : {A : Type 0} → ℕ → List (List A) → List ℕ
ends_from n [] = []
ends_from n (l ∷ ls) = (n + length l) ∷ ends_from (n + length l) ls

-- the bounds of lists that are one after another
abbrev pub bounds_of : {A : Type 0} → List (List A) → List ℕ
bounds_of ls = 0 ∷ ends_from 0 ls

-- the list at a place; past the last one none
abbrev pub list_at : {A : Type 0} → ℕ → List (List A) → List A
list_at n ls = unwrap_or (slice_get ls n) []
