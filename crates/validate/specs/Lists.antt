-- What lists of used arcs have to meet.
use Rattle.std.specs.Prelude.{◌≡◌, ℕ, Bool, true, false, cond, List, [], ◌∷◌, Some, slice_get}
use Rattle.std.specs.declared.cmp.Ordering.{Ordering}
use Rattle.theory.specs.ArcNumbers.{ArcRef, Uses, UsesOnce}
use Rattle.theory.specs.Geometry.{Geometry, IsLineOf}
use Rattle.theory.specs.Validity.{BeginsLeast, Runs}
use Rattle.arcs.specs.Arcs.{Arcs}
use Rattle.arcs.specs.Table.{free_at}

-- a line's list: it is not empty, runs on, and uses no arc twice and none that is free
pub record IsValidLine {V : Type 0} (arcs : List (List V)) (a : Geometry V) (refs : List ArcRef) : Type 0 where
  pub some : ¬ (refs ≡ [])
  pub runs : (v : V) × (w : V) × Runs arcs v refs w
  pub once : UsesOnce refs
  pub no_free : (k : ℕ) (c : List V) → Uses k refs → slice_get arcs k ≡ Some c → IsLineOf a c

-- a ring's list: it runs round, uses no arc twice, and begins where it starts least
pub record IsValidRing {V : Type 0} (cmp : V → V → Ordering) (arcs : List (List V)) (refs : List ArcRef) : Type 0 where
  pub round : (v : V) × Runs arcs v refs v
  pub once : UsesOnce refs
  pub least : BeginsLeast cmp arcs refs

-- whether no used arc is a free loop
abbrev pub none_free : Arcs → List ArcRef → Bool
none_free t [] = true
none_free t (a ∷ refs) = cond (free_at t a.arc) false (none_free t refs)

-- it is not empty, and runs back to where it begins
abbrev pub GoesRound : {V : Type 0} → List (List V) → List ArcRef → Type 0
GoesRound {V} arcs refs = (¬ (refs ≡ [])) × (v : V) × Runs arcs v refs v
