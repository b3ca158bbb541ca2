-- The arcs of a map: its chains in their least direction, in order, each once.
use Rattle.std.specs.Cmp.Lexicographic.{slice_cmp}
use Rattle.std.specs.Prelude.{◌≡◌, ℕ, List, [], ◌∷◌, ◌⊎◌, reverse, Some, slice_get}
use Rattle.std.specs.declared.cmp.Ordering.{Ordering}
use Rattle.std.specs.declared.cmp.Ordering.TheVariants.{Less}
use Rattle.theory.specs.Geometry.{Geometry, IsChainOf, SegmentOf}
use Rattle.theory.specs.LinesAndRings.{Trail}
use Rattle.theory.specs.Lists.{Beside, Has}

-- a chain of the map that comes before its own reverse [TopoJSON, 2.1.3; order own]
pub record IsArcOf {V : Type 0} (cmp : V → V → Ordering) (g : Geometry V) (c : List V) : Type 0 where
  pub chain : IsChainOf cmp g c
  pub forward : slice_cmp cmp c (reverse c) ≡ Less

-- each comes before all that follow
abbrev pub Ascends : {A : Type 0} → (A → A → Ordering) → List A → Type 0
Ascends cmp [] = Unit {0}
Ascends {A} cmp (x ∷ l) = ((y : A) → Has y l → cmp x y ≡ Less) × Ascends cmp l

-- the arcs of the map: all of them, each once, in order [TopoJSON, 2.1.3; order own]
pub record AreArcsOf {V : Type 0} (cmp : V → V → Ordering) (g : Geometry V) (arcs : List (List V)) : Type 0 where
  pub sorted : Ascends (slice_cmp cmp) arcs
  pub arcs_only : (c : List V) → Has c arcs → IsArcOf cmp g c
  pub all_arcs : (c : List V) → IsArcOf cmp g c → Has c arcs

-- each segment of the map is at one place of one arc, and arcs have no other segment
-- [TopoJSON, 1 (shared arcs are stored once)]
pub record EachSegmentOnce {V : Type 0} (g : Geometry V) (arcs : List (List V)) : Type 0 where
  pub in_an_arc : (u v : V) → SegmentOf g u v → (i : ℕ) × (c : List V) × (slice_get arcs i ≡ Some c) × Beside u v c
  pub one_arc : (u v : V) (i j : ℕ) (c d : List V) → slice_get arcs i ≡ Some c → slice_get arcs j ≡ Some d → Beside u v c → Beside u v d → i ≡ j
  pub one_place : (c : List V) → Has c arcs → Trail c
  pub no_other : (u v : V) (c : List V) → Has c arcs → Beside u v c → SegmentOf g u v

-- the chain or its reverse is in the list
abbrev pub EitherWay : {V : Type 0} → List (List V) → List V → Type 0
EitherWay ps c = Has c ps ⊎ Has (reverse c) ps

-- the same members, in order, each once
pub record AreSortedOnce {A : Type 0} (R : A → A → Ordering) (ps arcs : List A) : Type 0 where
  pub ascends : Ascends R arcs
  pub there : (c : A) → Has c ps → Has c arcs
  pub only : (c : A) → Has c arcs → Has c ps
