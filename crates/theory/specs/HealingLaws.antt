-- The laws of what is left of a map, as statements over any type V of vertices. Each is proved in RemovingProved.
use Rattle.std.specs.Prelude.{ℕ, List, ◌↔◌, Bool, Option, map}
use Rattle.std.specs.declared.cmp.Ordering.{Ordering}
use Rattle.theory.specs.ArcNumbers.{ArcRef, StitchTo}
use Rattle.theory.specs.Arcs.{AreArcsOf}
use Rattle.theory.specs.Geometry.{Geometry, IsLineOf, IsRingOf, IsSound, JunctionOf}
use Rattle.theory.specs.Laws.{IsOrder}
use Rattle.theory.specs.Lists.{Pairwise}
use Rattle.theory.specs.Refinement.{IsPartOf, IsRefinementOf}
use Rattle.theory.specs.Healing.{AreJoined, AreStarts, EndsInLayers, IsCut, IsKept, IsLineEnd, KeptLaws, Starts, TwoMeet, less, healed_list, healed_layer, healed_ring_list}
use Rattle.theory.specs.Validity.{BeginsAt, InLayers}
use Rattle.theory.specs.Topology.{Body, IsLayerOf, IsRingList, IsTopologyOf, Item, Layer, Map, geometry_of, positions_of}

-- u is a map with the arcs `table`, and g a part of it
pub record IsLeft {V : Type 0} (cmp : V → V → Ordering) (g u : Geometry V) (table : List (List V)) : Type 0 where
  pub order : IsOrder cmp
  pub sound : IsSound u
  pub arcs : AreArcsOf cmp u table
  pub part : IsPartOf g u

-- the kept arcs determine segments and junctions of what is left
abbrev pub KeptArcsTell : Type 0 → Type 0
KeptArcsTell V = (cmp : V → V → Ordering) (g u : Geometry V) (table : List (List V)) → IsLeft cmp g u table → KeptLaws cmp g u table

-- where no junction is left, two ends of kept arcs meet
abbrev pub TwoEndsMeet : Type 0 → Type 0
TwoEndsMeet V =
    (cmp : V → V → Ordering) (g u : Geometry V) (table : List (List V)) → IsLeft cmp g u table →
    (v : V) (a : ArcRef) → IsKept cmp g u table a.arc → BeginsAt table v a → ¬ JunctionOf g v → TwoMeet (IsKept cmp g u table) table v a

-- arcs are joined of kept ones exactly where they are the arcs of what is left, and the kept ones their pieces
abbrev pub JoinedArcsAreTheArcs : Type 0 → Type 0
JoinedArcsAreTheArcs V =
    (cmp : V → V → Ordering) (g u : Geometry V) (table : List (List V)) → IsLeft cmp g u table →
    (arcs : List (List V)) (pieces : List (List ArcRef)) → AreJoined cmp g u table arcs pieces ↔ IsRefinementOf cmp g u arcs table pieces

-- arcs that are known already may be cut
abbrev pub ArcsThatAreCut : Type 0 → Type 0
ArcsThatAreCut V =
    (cmp : V → V → Ordering) (g u : Geometry V) (table : List (List V)) → IsLeft cmp g u table →
    (arcs : List (List V)) (pieces : List (List ArcRef)) → AreArcsOf cmp g arcs → Pairwise (IsCut cmp g table) arcs pieces →
    IsRefinementOf cmp g u arcs table pieces

-- what begins where can be noted, and the new lists are read off the old ones by it
abbrev pub NewListsAlongOldOnes : Type 0 → Type 0
NewListsAlongOldOnes V =
    (cmp : V → V → Ordering) (g u : Geometry V) (table : List (List V)) → IsLeft cmp g u table →
    (arcs : List (List V)) (pieces : List (List ArcRef)) → IsRefinementOf cmp g u arcs table pieces →
    ((starts : Starts) × AreStarts pieces starts) ×
    ((starts : Starts) → AreStarts pieces starts →
    ((l : List V) (old : List ArcRef) → IsLineOf g l → StitchTo table old l → StitchTo arcs (healed_list starts 0 old) l) ×
    ((r : List V) (old : List ArcRef) → IsRingOf g r → IsRingList cmp (JunctionOf u) table r old →
    IsRingList cmp (JunctionOf g) arcs r (healed_ring_list cmp arcs starts old)))

-- the marked features of a map are a part of it, and their geometries in its topology are marked alike
abbrev pub MarkedFeaturesAreAPart : Type 0 → Type 0 → Type 0
MarkedFeaturesAreAPart V I =
    (cmp : V → V → Ordering) (m : Map I V) (marks : List (List Bool)) (table : List (List V)) (layers : List (Layer (Item I (Body V)))) →
    Pairwise (IsLayerOf cmp (JunctionOf (geometry_of m)) table) m layers →
    IsPartOf (geometry_of (less marks m)) (geometry_of m) ×
    Pairwise (IsLayerOf cmp (JunctionOf (geometry_of m)) table) (less marks m) (less marks layers)

-- which arcs are kept, and which vertices are ends of lines, by the geometries that are left
abbrev pub KeptByGeometries : Type 0 → Type 0 → Type 0
KeptByGeometries V I =
    (cmp : V → V → Ordering) (m n : Map I V) (table : List (List V)) → IsLeft cmp (geometry_of n) (geometry_of m) table →
    (olds : List (Layer (Item I (Body V)))) → Pairwise (IsLayerOf cmp (JunctionOf (geometry_of m)) table) n olds →
    ((k : ℕ) → IsKept cmp (geometry_of n) (geometry_of m) table k ↔ InLayers olds k) ×
    ((v : V) → IsLineEnd (geometry_of n) table v ↔ EndsInLayers table olds v)

-- joined arcs, and the lists along them, are the topology of what is left
abbrev pub TopologyOfWhatIsLeft : Type 0 → Type 0 → Type 0 → Type 0 → Type 0
TopologyOfWhatIsLeft V I G B =
    (cmp : V → V → Ordering) (box_of : G → List V → Option B) (on : G) (m n : Map I V) (table : List (List V)) →
    IsLeft cmp (geometry_of n) (geometry_of m) table →
    (olds : List (Layer (Item I (Body V)))) → Pairwise (IsLayerOf cmp (JunctionOf (geometry_of m)) table) n olds →
    (arcs : List (List V)) (pieces : List (List ArcRef)) (starts : Starts) →
    AreJoined cmp (geometry_of n) (geometry_of m) table arcs pieces → AreStarts pieces starts →
    IsTopologyOf cmp box_of on n (record { grid = on; arcs = arcs; layers = map (healed_layer cmp arcs starts) olds; bbox = box_of on (positions_of n) })
