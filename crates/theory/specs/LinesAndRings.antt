-- Lines and rings: lists of vertices, and cyclic lists, which may visit a vertex again but use no segment twice.
use Rattle.std.specs.Prelude.{◌≡◌, List, [], ◌∷◌, ◌++◌, ◌≤◌, length}
use Rattle.theory.specs.Lists.{Begins, Beside}

-- neighbours differ, and no unordered pair of neighbours occurs twice
abbrev pub Trail : {V : Type 0} → List V → Type 0
Trail [] = Unit {0}
Trail {V} (x ∷ l) = ((y : V) → Begins y l → (¬ (x ≡ y)) × (¬ Beside x y l)) × Trail l

-- a ring's vertices, begun at their first, and the first once more [RFC 7946, 3.1.6]
abbrev pub closed : {V : Type 0} → List V → List V
closed [] = []
closed (x ∷ l) = x ∷ (l ++ (x ∷ []))

-- a ring's vertices, and the first two once more: each vertex is there between its neighbours [RFC 7946, 3.1.6]
abbrev pub around : {V : Type 0} → List V → List V
around [] = []
around (x ∷ []) = []
around (x ∷ (y ∷ r)) = x ∷ (y ∷ (r ++ (x ∷ (y ∷ []))))

-- b is the cyclic list a, begun at another place
abbrev pub IsRotation : {V : Type 0} → List V → List V → Type 0
IsRotation {V} a b = (s : List V) × (t : List V) × (a ≡ s ++ t) × (b ≡ t ++ s)

-- two places or more, no segment twice [RFC 7946, 3.1.4; own]
pub record IsLine {V : Type 0} (l : List V) : Type 0 where
  pub long : 2 ≤ length l
  pub once : Trail l

-- three places or more, and round the list no segment occurs twice [RFC 7946, 3.1.6; own]
pub record IsRing {V : Type 0} (r : List V) : Type 0 where
  pub long : 3 ≤ length r
  pub once : Trail (closed r)
