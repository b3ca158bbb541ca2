-- The laws of valid arcs, lists and topologies, as statements over any type V of vertices. Each is promised by the function of `laws` that has its name.
use Rattle.std.specs.Prelude.{◌≡◌, List, [], Option}
use Rattle.std.specs.declared.cmp.Ordering.{Ordering}
use Rattle.theory.specs.ArcNumbers.{ArcRef, StitchTo, UsesOnce}
use Rattle.theory.specs.Arcs.{AreArcsOf, EachSegmentOnce}
use Rattle.theory.specs.Geometry.{Geometry, IsRingOf, IsSound, JunctionOf}
use Rattle.theory.specs.Laws.{IsOrder}
use Rattle.theory.specs.LinesAndRings.{IsLine, IsRing, closed}
use Rattle.theory.specs.Refinement.{Alike, turned_used}
use Rattle.theory.specs.Validity.{ArcsAreNoded, AreValidArcs, IsListOfRing, AreValidFor, IsValidTopology}
use Rattle.theory.specs.Topology.{IsRingList, IsTopologyOf, Map, Topology, geometry_of}

-- arcs of which no vertex inside one is at another place are valid
abbrev pub NodedArcsAreValid : Type 0 → Type 0
NodedArcsAreValid V =
    (cmp : V → V → Ordering) → IsOrder cmp → (arcs : List (List V)) (a : Geometry V) → ArcsAreNoded cmp arcs a → AreValidArcs cmp arcs a

-- valid arcs are the arcs of the map that they make: no segment is in two of them, or twice in one
abbrev pub ValidArcsAreTheMaps : Type 0 → Type 0
ValidArcsAreTheMaps V =
    (cmp : V → V → Ordering) → IsOrder cmp → (arcs : List (List V)) (a : Geometry V) → AreValidArcs cmp arcs a →
    IsSound a × AreArcsOf cmp a arcs × EachSegmentOnce a arcs

-- what a list stitches to that uses no arc twice is a line, or, closed, a ring
abbrev pub ValidListsAreLinesOrRings : Type 0 → Type 0
ValidListsAreLinesOrRings V =
    (cmp : V → V → Ordering) → IsOrder cmp → (arcs : List (List V)) (a : Geometry V) → AreValidArcs cmp arcs a →
    (used : List ArcRef) → ¬ (used ≡ []) → UsesOnce used →
    ((l : List V) → StitchTo arcs used l → IsLine l) × ((q : List V) → StitchTo arcs used (closed q) → IsRing q)

-- arcs that are valid for g are the arcs of g
abbrev pub ArcsValidForAMapAreIts : Type 0 → Type 0
ArcsValidForAMapAreIts V =
    (cmp : V → V → Ordering) → IsOrder cmp → (arcs : List (List V)) (a g : Geometry V) → AreValidFor cmp arcs a g →
    IsSound g × AreArcsOf cmp g arcs × Alike a g

-- a ring's list, turned to begin where it starts least, is the one that the topology has
abbrev pub ValidRingListsAreTheMaps : Type 0 → Type 0
ValidRingListsAreTheMaps V =
    (cmp : V → V → Ordering) → IsOrder cmp → (g : Geometry V) → IsSound g → (arcs : List (List V)) → AreArcsOf cmp g arcs →
    (r : List V) → IsRingOf g r → (used : List ArcRef) → IsListOfRing arcs r used →
    IsRingList cmp (JunctionOf g) arcs r (turned_used cmp arcs used)

-- a topology that is valid for a map is that of the map
abbrev pub TopologyValidForAMapIsIts : Type 0 → Type 0 → Type 0 → Type 0 → Type 0
TopologyValidForAMapIsIts V I G B =
    (cmp : V → V → Ordering) (box_of : G → List V → Option B) (on : G) (m : Map I V) → IsOrder cmp →
    (a : Geometry V) (t : Topology G I V B) → IsValidTopology cmp box_of on m a t →
    IsSound (geometry_of m) × IsTopologyOf cmp box_of on m t

-- and the topology of each map is valid for it
abbrev pub TopologyOfAMapIsValid : Type 0 → Type 0 → Type 0 → Type 0 → Type 0
TopologyOfAMapIsValid V I G B =
    (cmp : V → V → Ordering) (box_of : G → List V → Option B) (on : G) (m : Map I V) → IsOrder cmp → IsSound (geometry_of m) →
    (t : Topology G I V B) → IsTopologyOf cmp box_of on m t →
    (a : Geometry V) × IsValidTopology cmp box_of on m a t × ArcsAreNoded cmp t.arcs a
