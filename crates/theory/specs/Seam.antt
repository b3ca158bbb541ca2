-- The seam of a ring: the vertex from which its list of arcs begins.
use Rattle.std.specs.Cmp.Lexicographic.{slice_cmp}
use Rattle.std.specs.Prelude.{List, ◌∷◌, ◌⊎◌}
use Rattle.std.specs.declared.cmp.Ordering.{Ordering}
use Rattle.theory.specs.Geometry.{AtMost}
use Rattle.theory.specs.LinesAndRings.{IsRotation}
use Rattle.theory.specs.Lists.{Has}

-- v is the least vertex of the list that has P
pub record IsLeastOf {V : Type 0} (cmp : V → V → Ordering) (P : V → Type 0) (l : List V) (v : V) : Type 0 where
  pub there : Has v l
  pub has_it : P v
  pub least : (u : V) → Has u l → P u → AtMost cmp v u

-- any vertex
abbrev pub Any : {V : Type 0} → V → Type 0
Any v = Unit {0}

-- v is the ring's least junction, or its least vertex where it has no junction
abbrev pub IsSeamOf : {V : Type 0} → (V → V → Ordering) → (V → Type 0) → List V → V → Type 0
IsSeamOf {V} cmp J r v = IsLeastOf cmp J r v ⊎ (((u : V) → Has u r → ¬ J u) × IsLeastOf cmp Any r v)

-- x ∷ l is the ring's least rotation that begins at its seam
pub record IsTurned {V : Type 0} (cmp : V → V → Ordering) (J : V → Type 0) (r : List V) (x : V) (l : List V) : Type 0 where
  pub rotation : IsRotation r (x ∷ l)
  pub seam : IsSeamOf cmp J r x
  pub least : (m : List V) → IsRotation r (x ∷ m) → AtMost (slice_cmp cmp) (x ∷ l) (x ∷ m)
