-- Visits and junctions of a map, which is given by its lines L and its rings R.
use Rattle.std.specs.Prelude.{◌≡◌, List, ◌⊎◌}
use Rattle.theory.specs.LinesAndRings.{around}
use Rattle.theory.specs.Lists.{Between, EndOf, Passes}

-- what a visit of a vertex says: the end of a line, or the unordered pair of the two neighbours
-- [topojson-server; own for the ends of a closed line]
pub data Visit (V : Type 0) : Type 0 where
  end : Visit V
  pair : V → V → Visit V

-- two visits that say the same: both an end, or the same two neighbours in either order
abbrev pub SameVisit : {V : Type 0} → Visit V → Visit V → Type 0
SameVisit end end = Unit {0}
SameVisit end (pair c d) = ⊥
SameVisit (pair a b) end = ⊥
SameVisit (pair a b) (pair c d) = ((a ≡ c) × (b ≡ d)) ⊎ ((a ≡ d) × (b ≡ c))

-- the map visits v so [topojson-server; own for the ends of a closed line]
abbrev pub Visits : {V : Type 0} → (List V → Type 0) → (List V → Type 0) → V → Visit V → Type 0
Visits {V} L R v end = (l : List V) × L l × EndOf v l
Visits {V} L R v (pair a b) =
    ((l : List V) × L l × Between a v b l) ⊎ ((r : List V) × R r × Between a v b (around r))

-- a vertex with an end visit, or with two different visits
-- [topojson-server; own for a vertex that one line or ring visits again]
abbrev pub Junction : {V : Type 0} → (List V → Type 0) → (List V → Type 0) → V → Type 0
Junction {V} L R v = Visits L R v end ⊎ ((p : Visit V) × (q : Visit V) × Visits L R v p × Visits L R v q × (¬ SameVisit p q))

-- two different visits of v by one list
abbrev pub TwoVisits : {V : Type 0} → V → List V → Type 0
TwoVisits {V} v l = (a : V) × (b : V) × (c : V) × (d : V) × Passes a v b l × Passes c v d l × (¬ SameVisit (pair a b) (pair c d))
