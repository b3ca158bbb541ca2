-- Finite sets, as contracts see them: their members in order. A set is a finite map with nothing at each key,
-- so `items` has the laws of a map's keys.
use Rattle.std.specs.Prelude.{Bool, List, [], ◌∷◌}
use Rattle.std.specs.declared.cmp.Ordering.{Ordering}
use Rattle.std.specs.Coded.{Coded}
use base.Stored.{coded_unit}
use Rattle.std.specs.FinMap as map

-- finite sets in the order R
abbrev pub FinSet : {K : Type 0} → (K → K → Ordering) → Type 0
FinSet R = map.FinMap R (Unit {0})

module _ {K : Type 0} {R : K → K → Ordering} where
  abbrev pub code : Coded K → Coded (FinSet R)
  code k = map.code k coded_unit

  -- the set of nothing
  abbrev pub empty : FinSet R
  empty = map.empty

  -- whether a member ties with q
  abbrev pub contains : FinSet R → K → Bool
  contains s q = map.contains_key s q

  -- s and k
  abbrev pub insert : FinSet R → K → FinSet R
  insert s k = map.insert s k tt

  -- the members, in order
  abbrev pub items : FinSet R → List K
  items s = map.keys s

  -- s and the members of a list
  abbrev pub insert_all : FinSet R → List K → FinSet R
  insert_all s [] = s
  insert_all s (k ∷ ks) = insert (insert_all s ks) k

  -- the set of a list's members
  abbrev pub from_list : List K → FinSet R
  from_list ks = insert_all empty ks

  -- the members of both
  unfoldable pub union : FinSet R → FinSet R → FinSet R
  union s t = insert_all s (items t)
