-- Pairs of vertices that lie near each other, where one feature has only the one, and another only the other.
use Rattle.std.specs.Prelude.{◌≡◌, ◌⊎◌, ◌<ℤ◌, ◌-ℤ◌, ◌&&◌, ◌||◌, ◌==◌, ℕ, ℤ, Bool, true, false, not, cond, List, [], ◌∷◌, ◌++◌, nat_le, unsigned_abs, int_lt, map, Option, Some, None, is_some}
use Rattle.std.specs.Ordering.{int_eq}
use Rattle.std.specs.List.{AllByRecursion}
use Rattle.grid.specs.Fits.{x_of, y_of}
use Rattle.compare.specs.declared.quality.vertex.Vertex.{Vertex}
use Rattle.compare.specs.declared.quality.vertex.VertexUse.{VertexUse}

-- whether a and b are at most n apart
abbrev pub within : ℕ → ℤ → ℤ → Bool
within n a b = nat_le (unsigned_abs (a -ℤ b)) n

-- whether one of the uses is by the feature f
abbrev pub has_feature : ℕ → List VertexUse → Bool
has_feature f [] = false
has_feature f (u ∷ us) = cond (u.feature == f) true (has_feature f us)

-- the first feature of the uses us that has none of the uses ws
abbrev pub other_feature : List VertexUse → List VertexUse → Option ℕ
other_feature [] ws = None
other_feature (u ∷ us) ws = cond (has_feature u.feature ws) (other_feature us ws) (Some u.feature)

-- whether one feature has v and not w, and one has w and not v
abbrev pub are_apart : Vertex → Vertex → Bool
are_apart v w = is_some (other_feature v.uses.now w.uses.now) && is_some (other_feature w.uses.now v.uses.now)

-- whether v and w are of different features, and at most n steps apart in both directions
abbrev pub are_near : ℕ → Vertex → Vertex → Bool
are_near n v w = within n (x_of v.at) (x_of w.at) && (within n (y_of v.at) (y_of w.at) && are_apart v w)

-- those of the vertices that are near v
abbrev pub near_to : ℕ → Vertex → List Vertex → List Vertex
near_to n v [] = []
near_to n v (w ∷ ws) = cond (are_near n v w) (w ∷ near_to n v ws) (near_to n v ws)

-- each vertex with those behind it that are near it
abbrev pub near_pairs : ℕ → List Vertex → List (Vertex × Vertex)
near_pairs n [] = []
near_pairs n (v ∷ vs) = map (λ w. (v, w)) (near_to n v vs) ++ near_pairs n vs

-- v comes before w: by the first number, then by the second
abbrev pub Before : Vertex → Vertex → Type 0
Before v w = (x_of v.at <ℤ x_of w.at) ⊎ ((x_of v.at ≡ x_of w.at) × (y_of v.at <ℤ y_of w.at))

-- each vertex comes before all behind it
abbrev pub Ascend : List Vertex → Type 0
Ascend [] = Unit {0}
Ascend (v ∷ vs) = AllByRecursion (Before v) vs × Ascend vs

-- none of the vertices is near v
abbrev pub NoneNear : ℕ → Vertex → List Vertex → Type 0
NoneNear n v ws = AllByRecursion (λ w. are_near n v w ≡ false) ws

-- whether b is greater than a by more than n
abbrev pub over : ℕ → ℤ → ℤ → Bool
over n a b = int_lt a b && not (within n a b)

-- whether w lies in the column of u, and u is above v's reach or w is below it
abbrev pub beyond : ℕ → Vertex → Vertex → Vertex → Bool
beyond n v u w = int_eq (x_of w.at) (x_of u.at) && (over n (y_of v.at) (y_of u.at) || over n (y_of w.at) (y_of v.at))
