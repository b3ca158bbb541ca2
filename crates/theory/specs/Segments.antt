-- Segments of a map: the pairs of neighbours on its lines and rings. A map is given by its lines L and its rings R.
use Rattle.std.specs.Prelude.{◌≡◌, List, ◌⊎◌}
use Rattle.theory.specs.LinesAndRings.{around}
use Rattle.theory.specs.Lists.{Beside}

-- neighbours on a line or a ring [TopoJSON, 2.1.3]
abbrev pub Segment : {V : Type 0} → (List V → Type 0) → (List V → Type 0) → V → V → Type 0
Segment {V} L R u v =
    ((l : List V) × L l × Beside u v l) ⊎ ((r : List V) × R r × Beside u v (around r))

-- v lies on exactly two of the segments
abbrev pub OnTwo : {V : Type 0} → (V → V → Type 0) → V → Type 0
OnTwo {V} S v = (a : V) × (b : V) × (¬ (a ≡ b)) × S v a × S v b × ((c : V) → S v c → (c ≡ a) ⊎ (c ≡ b))

-- each vertex of the segments S that is no stop lies on exactly two of them
abbrev pub TwoSegments : {V : Type 0} → (V → V → Type 0) → (V → Type 0) → Type 0
TwoSegments {V} S J =
    (v w : V) → ¬ J v → S v w → OnTwo S v

-- v lies on three segments or more
abbrev pub OnThree : {V : Type 0} → (V → V → Type 0) → V → Type 0
OnThree {V} S v = (a : V) × (b : V) × (c : V) × S v a × S v b × S v c × (¬ (a ≡ b)) × (¬ (a ≡ c)) × (¬ (b ≡ c))
