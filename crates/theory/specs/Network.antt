-- Segments and stops as data, with their chains: those of a map, or any others where each vertex that is no stop lies on exactly two.
use Rattle.std.specs.Prelude.{List, [], ◌∷◌, ◌++◌, ◌⊎◌, ◌↔◌}
use Rattle.std.specs.declared.cmp.Ordering.{Ordering}
use Rattle.theory.specs.Chain.{IsChain, SameArc}
use Rattle.theory.specs.Geometry.{Geometry, AtMost, SegmentOf, JunctionOf}
use Rattle.theory.specs.LinesAndRings.{around}
use Rattle.theory.specs.Lists.{Has, Each, gathered, joined}
use Rattle.theory.specs.Segments.{TwoSegments}
use Rattle.theory.specs.TopologyFunction.{is_junction, keep}

-- segments by their two ends, and stops [topojson-client (mesh); chains own]
pub record Network (V : Type 0) : Type 0 where
  pub segments : List (V × V)
  pub stops : List V

-- u and v are the ends of a segment, in either order
abbrev pub Joins : {V : Type 0} → Network V → V → V → Type 0
Joins {V} n u v = Has {V = V × V} (u, v) n.segments ⊎ Has {V = V × V} (v, u) n.segments

-- v is a stop
abbrev pub IsStop : {V : Type 0} → Network V → V → Type 0
IsStop n v = Has v n.stops

-- the ends of a segment differ, and each vertex on a segment that is no stop lies on exactly two segments
-- [topojson-client (mesh); chains own]
pub record IsNetwork {V : Type 0} (n : Network V) : Type 0 where
  pub apart : (u : V) → ¬ Joins n u u
  pub two : TwoSegments (Joins n) (IsStop n)

-- a chain over the segments with the stops [topojson-client (mesh); chains own]
abbrev pub IsChainIn : {V : Type 0} → (V → V → Ordering) → Network V → List V → Type 0
IsChainIn cmp n = IsChain (Joins n) (IsStop n) (AtMost cmp)

-- the lists are chains, and each chain or its reverse is among them [topojson-client (mesh); chains own]
pub record AreAllChains {V : Type 0} (cmp : V → V → Ordering) (n : Network V) (ds : List (List V)) : Type 0 where
  pub chains : Each (IsChainIn cmp n) ds
  pub all : (c : List V) → IsChainIn cmp n c → (d : List V) × Has d ds × SameArc d c

-- the segments are those of the map, and the stops its junctions
pub record IsNetworkOf {V : Type 0} (n : Network V) (g : Geometry V) : Type 0 where
  pub segments : (u v : V) → Joins n u v ↔ SegmentOf g u v
  pub stops : (v : V) → IsStop n v ↔ JunctionOf g v

-- the pairs of neighbours of a list
abbrev pub pairs_in : {V : Type 0} → List V → List (V × V)
pairs_in [] = []
pairs_in (x ∷ []) = []
pairs_in (x ∷ (y ∷ r)) = (x, y) ∷ pairs_in (y ∷ r)

-- the segments and the junctions of a map
abbrev pub network_of : {V : Type 0} → (V → V → Ordering) → Geometry V → Network V
network_of cmp g = record {
  segments = gathered pairs_in g.lines ++ gathered (λ r. pairs_in (around r)) g.rings;
  stops = keep (is_junction cmp g) (joined g.lines ++ joined g.rings);
}
