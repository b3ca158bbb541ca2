-- Plans that name the same maps or texts.
use Rattle.std.specs.Prelude.{◌≡◌, ℕ, ◌↔◌, ◌⊎◌, List, [], ◌∷◌, Some, None, length, slice_get}
use Rattle.shapes.specs.Maps.{Layers}
use Rattle.merging.specs.Leaves.{first_outside}
use Rattle.merging.specs.Plans.{union_at}

-- the number is in the list
abbrev pub IsIn : ℕ → List ℕ → Type 0
IsIn i [] = ⊥
IsIn i (j ∷ js) = (i ≡ j) ⊎ IsIn i js

-- one of the indexes holds the map or text
abbrev pub Names : {A : Type 0} → List A → List ℕ → A → Type 0
Names xs is x = (i : ℕ) × IsIn i is × (slice_get xs i ≡ Some x)

-- the two name the same maps or texts
abbrev pub NameTheSame : {A : Type 0} → List A → List ℕ → List A → List ℕ → Type 0
NameTheSame {A = A} xs is ys js = (x : A) → Names xs is x ↔ Names ys js x

-- leaves that are indexes, in any order, with repeats and in any grouping: the union depends only on which maps are named
abbrev pub PlansAlike : Type 0
PlansAlike = (ms ns : List Layers) (is js : List ℕ) → first_outside (length ms) is ≡ None → first_outside (length ns) js ≡ None → NameTheSame ms is ns js → union_at ms is ≡ union_at ns js
