-- The items of a list that a plan names.
use Rattle.std.specs.Prelude.{◌≡◌, ◌↔◌, ℕ, Bool, true, false, cond, List, [], ◌∷◌, None, get_or, length, set}
use Rattle.merging.specs.Leaves.{first_outside}
use Rattle.merging.specs.Alike.{IsIn}

-- the marks, with those at some indexes set, the last of these first
abbrev pub marked : List Bool → List ℕ → List Bool
marked marks [] = marks
marked marks (i ∷ is) = set (marked marks is) i true

-- the items whose marks are set
abbrev pub kept : {X : Type 0} → List Bool → List X → List X
kept [] xs = []
kept (b ∷ bs) [] = []
kept (b ∷ bs) (x ∷ xs) = cond b (x ∷ kept bs xs) (kept bs xs)

-- the numbers are indexes of a list of n, and the marks are set there alone
pub record AreMarksOf (n : ℕ) (is : List ℕ) (marks : List Bool) : Type 0 where
  pub indexes : first_outside n is ≡ None
  pub long : length marks ≡ n
  pub set_at : (i : ℕ) → (get_or marks i false ≡ true) ↔ IsIn i is
