-- The segments along arcs.
use Rattle.std.specs.Prelude.{◌≡◌, ◌↔◌, ◌⊎◌, ℕ, List, [], ◌∷◌, slice_get, unwrap_or}
use Rattle.grid.specs.declared.pos.Pos.{Pos}
use Rattle.chains.specs.Joined.{AmongSegments}
use Rattle.chains.specs.declared.segment.Segment.{Segment}

-- the arc of a number, no positions where there is none
abbrev pub arc_at : List (List Pos) → ℕ → List Pos
arc_at arcs n = unwrap_or (slice_get arcs n) []

-- a and b differ, and are u and v in either order
abbrev pub Joins : Pos → Pos → Pos → Pos → Type 0
Joins a b u v = (¬ (a ≡ b)) × (((u ≡ a) × (v ≡ b)) ⊎ ((u ≡ b) × (v ≡ a)))

-- u and v are different neighbours on the list behind x, x the first
abbrev pub SidesFrom : Pos → List Pos → Pos → Pos → Type 0
SidesFrom x [] u v = ⊥
SidesFrom x (y ∷ r) u v = Joins x y u v ⊎ SidesFrom y r u v

-- u and v are different neighbours on the list
abbrev pub SidesOf : List Pos → Pos → Pos → Type 0
SidesOf [] u v = ⊥
SidesOf (x ∷ r) u v = SidesFrom x r u v

-- u and v are different neighbours on an arc of one of the numbers
abbrev pub OnArcs : List (List Pos) → List ℕ → Pos → Pos → Type 0
OnArcs arcs [] u v = ⊥
OnArcs arcs (k ∷ ks) u v = SidesOf (arc_at arcs k) u v ⊎ OnArcs arcs ks u v

-- the segments are those of the arcs of these numbers
abbrev pub HasArcs : List (List Pos) → List ℕ → List Segment → Type 0
HasArcs arcs ks segs = (u v : Pos) → AmongSegments u v segs ↔ OnArcs arcs ks u v
