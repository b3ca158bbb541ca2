-- Worked rows: what `topology_of` gives, by computation. Vertices are pairs of whole numbers, ordered by the first, then the second.
-- One layer without a name holds the features in their order; what a feature keeps beside its shape is left out, and so is the box.
use Rattle.std.proofs.Common.{◌≡◌, ℕ, ℤ, pos, true, false, List, [], ◌∷◌, refl, None}
use Rattle.std.specs.Ordering.{int_cmp, ordering_then}
use Rattle.std.specs.Prelude.{map, negsuc}
use Rattle.std.specs.declared.cmp.Ordering.{Ordering}
use Rattle.theory.specs.ArcNumbers.{ArcRef, index_of}
use Rattle.theory.specs.Topology.{line, polygon, Shape, Body, Item, Map, Topology, geometry_of}
use Rattle.theory.specs.TopologyFunction.{is_junction, topology_of}

abbrev pub Position : Type 0
Position = ℤ × ℤ

abbrev pub by_position : Position → Position → Ordering
by_position p q = ordering_then (int_cmp p.0 q.0) (int_cmp p.1 q.1)

abbrev pub p : ℕ → ℕ → Position
p x y = (pos x, pos y)

abbrev feature : Shape Position → Item ℕ (Shape Position)
feature f = record { info = 0; form = f }

abbrev geometry : Body Position → Item ℕ (Body Position)
geometry f = record { info = 0; form = f }

-- the map with these features in one layer
abbrev one_layer : List (Shape Position) → Map ℕ Position
one_layer fs = record { name = []; items = map feature fs } ∷ []

abbrev built : List (Shape Position) → Topology ℕ ℕ Position ℕ
built fs = topology_of by_position (λ g ps. None) 0 (one_layer fs)

-- a topology with these arcs, and these geometries in one layer
abbrev topology : List (List Position) → List (Body Position) → Topology ℕ ℕ Position ℕ
topology arcs gs = record {
  grid = 0;
  arcs = arcs;
  layers = record { name = []; items = map geometry gs } ∷ [];
  bbox = None;
}

-- arc i, used in its direction, and reversed
abbrev pub ahead : ℕ → ArcRef
ahead i = record { arc = i; reversed = false }

abbrev pub reversed : ℕ → ArcRef
reversed i = record { arc = i; reversed = true }

-- TopoJSON's indexes of arc 0 ahead and of arcs 0 and 1 reversed
indexes : map index_of (ahead 0 ∷ reversed 0 ∷ reversed 1 ∷ []) ≡ pos 0 ∷ negsuc 0 ∷ negsuc 1 ∷ []
indexes = refl

-- nothing
empty : built [] ≡ topology [] []
empty = refl

-- three squares in a row
abbrev pub first : List Position
first = p 0 0 ∷ p 1 0 ∷ p 1 1 ∷ p 0 1 ∷ []

abbrev pub second : List Position
second = p 1 0 ∷ p 2 0 ∷ p 2 1 ∷ p 1 1 ∷ []

abbrev pub third : List Position
third = p 2 0 ∷ p 3 0 ∷ p 3 1 ∷ p 2 1 ∷ []

-- shared edge: the first two have one side in common
shared_edge :
    built (polygon (first ∷ []) ∷ polygon (second ∷ []) ∷ [])
    ≡ topology
    ((p 1 0 ∷ p 0 0 ∷ p 0 1 ∷ p 1 1 ∷ []) ∷ (p 1 0 ∷ p 1 1 ∷ []) ∷ (p 1 0 ∷ p 2 0 ∷ p 2 1 ∷ p 1 1 ∷ []) ∷ [])
    (polygon ((ahead 1 ∷ reversed 0 ∷ []) ∷ []) ∷ polygon ((ahead 2 ∷ reversed 1 ∷ []) ∷ []) ∷ [])
shared_edge = refl

abbrev pub triangle : List Position
triangle = p 0 0 ∷ p 2 0 ∷ p 0 2 ∷ []

-- free loop, used reversed
free_loop_used_reversed :
    built (polygon (triangle ∷ []) ∷ [])
    ≡ topology ((p 0 0 ∷ p 0 2 ∷ p 2 0 ∷ p 0 0 ∷ []) ∷ []) (polygon ((reversed 0 ∷ []) ∷ []) ∷ [])
free_loop_used_reversed = refl

-- the seam vanishes: a line ends on the triangle, which then begins there
the_seam_vanishes :
    built (line (p 2 0 ∷ p 3 0 ∷ []) ∷ polygon (triangle ∷ []) ∷ [])
    ≡ topology
    ((p 2 0 ∷ p 0 0 ∷ p 0 2 ∷ p 2 0 ∷ []) ∷ (p 2 0 ∷ p 3 0 ∷ []) ∷ [])
    (line (ahead 1 ∷ []) ∷ polygon ((reversed 0 ∷ []) ∷ []) ∷ [])
the_seam_vanishes = refl

-- a junction from an end alone: a closed line goes round the triangle
a_junction_from_an_end_alone :
    built (line (p 0 2 ∷ p 0 0 ∷ p 2 0 ∷ p 0 2 ∷ []) ∷ polygon (triangle ∷ []) ∷ [])
    ≡ topology ((p 0 2 ∷ p 0 0 ∷ p 2 0 ∷ p 0 2 ∷ []) ∷ []) (line (ahead 0 ∷ []) ∷ polygon ((ahead 0 ∷ []) ∷ []) ∷ [])
a_junction_from_an_end_alone = refl

-- a junction of the union alone: two lines part at (1, 0), which is a junction of neither
abbrev straight : Shape Position
straight = line (p 0 0 ∷ p 1 0 ∷ p 2 0 ∷ [])

abbrev bent : Shape Position
bent = line (p 0 0 ∷ p 1 0 ∷ p 1 1 ∷ [])

a_junction_of_the_union_alone :
    built (bent ∷ straight ∷ [])
    ≡ topology
    ((p 0 0 ∷ p 1 0 ∷ []) ∷ (p 1 0 ∷ p 1 1 ∷ []) ∷ (p 1 0 ∷ p 2 0 ∷ []) ∷ [])
    (line (ahead 0 ∷ ahead 1 ∷ []) ∷ line (ahead 0 ∷ ahead 2 ∷ []) ∷ [])
a_junction_of_the_union_alone = refl

no_junction_of_the_straight_line : is_junction by_position (geometry_of (one_layer (straight ∷ []))) (p 1 0) ≡ false
no_junction_of_the_straight_line = refl

no_junction_of_the_bent_line : is_junction by_position (geometry_of (one_layer (bent ∷ []))) (p 1 0) ≡ false
no_junction_of_the_bent_line = refl

-- a ring that comes to (1, 1) again
ring_that_visits_a_vertex_again :
    built (polygon ((p 0 0 ∷ p 2 0 ∷ p 1 1 ∷ p 0 2 ∷ p 2 2 ∷ p 1 1 ∷ []) ∷ []) ∷ [])
    ≡ topology
    ((p 1 1 ∷ p 0 0 ∷ p 2 0 ∷ p 1 1 ∷ []) ∷ (p 1 1 ∷ p 0 2 ∷ p 2 2 ∷ p 1 1 ∷ []) ∷ [])
    (polygon ((ahead 0 ∷ ahead 1 ∷ []) ∷ []) ∷ [])
ring_that_visits_a_vertex_again = refl

-- a line that comes to (1, 1) again
line_that_visits_a_vertex_again :
    built (line (p 0 0 ∷ p 1 1 ∷ p 2 2 ∷ p 2 0 ∷ p 1 1 ∷ p 0 2 ∷ []) ∷ [])
    ≡ topology
    ((p 0 0 ∷ p 1 1 ∷ []) ∷ (p 0 2 ∷ p 1 1 ∷ []) ∷ (p 1 1 ∷ p 2 0 ∷ p 2 2 ∷ p 1 1 ∷ []) ∷ [])
    (line (ahead 0 ∷ reversed 2 ∷ reversed 1 ∷ []) ∷ [])
line_that_visits_a_vertex_again = refl
