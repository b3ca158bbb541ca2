-- The laws of maps, as statements over any type V of vertices. Each is promised by the function of `laws` that has its name.
use Rattle.std.specs.Cmp.Lexicographic.{slice_cmp}
use Rattle.std.specs.Cmp.{IsTotalOrder}
use Rattle.std.specs.FinMap.{IsAntisymmetric}
use Rattle.std.specs.Prelude.{◌≡◌, ℕ, List, [], ◌∷◌, ◌++◌, reverse, ◌⊎◌, ◌↔◌, Option, Some, None, slice_get}
use Rattle.std.specs.declared.cmp.Ordering.{Ordering}
use Rattle.theory.specs.ArcNumbers.{ArcRef, StartsLeast, StitchTo, Uses, along}
use Rattle.theory.specs.Arcs.{IsArcOf, AreArcsOf, AreSortedOnce, EachSegmentOnce}
use Rattle.theory.specs.Chain.{Free, SameArc}
use Rattle.theory.specs.Geometry.{Geometry, IsLineOf, IsRingOf, IsSound, SegmentOf, JunctionOf, IsChainOf, AtMost}
use Rattle.theory.specs.LinesAndRings.{Trail, IsRing, IsRotation, closed}
use Rattle.theory.specs.Lists.{Has, Beside, Twice, EndOf, Each}
use Rattle.theory.specs.Network.{Network, IsNetwork, IsNetworkOf, IsChainIn, AreAllChains, Joins, network_of}
use Rattle.theory.specs.Refinement.{IsPartOf, IsUnionOf, IsRefinementOf, RefinementLaws, RemovalLaws, Alike, arcs_as_map, both_of, pieces_at, recut, replaced, turned_used, recut_body}
use Rattle.theory.specs.Seam.{Any, IsLeastOf, IsTurned}
use Rattle.theory.specs.Segments.{OnThree, TwoSegments}
use Rattle.theory.specs.Stitching.{Stitched, ArePiecesOf, AreRingPiecesOf, HaveAllPieces}
use Rattle.theory.specs.Topology.{Body, IsFormOf, IsRingList, IsTopologyOf, Map, Shape, Topology, geometry_of, rings_in, lines_in}
use Rattle.theory.specs.TopologyFunction.{is_junction, line_cut, ring_cut, arcs_of, topology_of}
use Rattle.theory.specs.Users.{HasSegment, ShareArc, ShareSegment, UsesArc}
use Rattle.theory.specs.Walking.{Found, StopsCovered}

-- the comparison of vertices is a total order in which equal means the same
pub record IsOrder {V : Type 0} (cmp : V → V → Ordering) : Type 0 where
  pub total : IsTotalOrder cmp
  pub same : IsAntisymmetric cmp

-- Chains over any segments with stops, where each other vertex lies on exactly two segments.

-- two chains that have one segment are one chain, or each is the other's reverse
abbrev pub OneChainThroughASegment : Type 0 → Type 0
OneChainThroughASegment V =
    (cmp : V → V → Ordering) (n : Network V) → IsOrder cmp → IsNetwork n →
    (c d : List V) → IsChainIn cmp n c → IsChainIn cmp n d → (u v : V) → Beside u v c → Beside u v d → SameArc c d

-- no segment occurs twice in a chain
abbrev pub NoSegmentTwice : Type 0 → Type 0
NoSegmentTwice V =
    (cmp : V → V → Ordering) (n : Network V) → IsOrder cmp → IsNetwork n → (c : List V) → IsChainIn cmp n c → Trail c

-- no chain is its own reverse
abbrev pub NotItsReverse : Type 0 → Type 0
NotItsReverse V =
    (cmp : V → V → Ordering) (n : Network V) → IsOrder cmp → IsNetwork n → (c : List V) → IsChainIn cmp n c → ¬ (c ≡ reverse c)

-- the reverse of a chain is a chain
abbrev pub ReverseIsAChain : Type 0 → Type 0
ReverseIsAChain V =
    (cmp : V → V → Ordering) (n : Network V) → IsOrder cmp → IsNetwork n → (c : List V) → IsChainIn cmp n c → IsChainIn cmp n (reverse c)

-- chains that have all segments among them are all chains, up to direction
abbrev pub CoveringChainsAreAll : Type 0 → Type 0
CoveringChainsAreAll V =
    (cmp : V → V → Ordering) (n : Network V) → IsOrder cmp → IsNetwork n → (ds : List (List V)) → Each (IsChainIn cmp n) ds →
    ((u v : V) → Joins n u v → (d : List V) × Has d ds × Beside u v d) → AreAllChains cmp n ds

-- at most one list of chains stitches to a list
abbrev pub OneListOfChains : Type 0 → Type 0
OneListOfChains V =
    (cmp : V → V → Ordering) (n : Network V) → IsOrder cmp → IsNetwork n → (x : V) (r : List V) (cs ds : List (List V)) →
    Each (IsChainIn cmp n) cs → Each (IsChainIn cmp n) ds → Stitched x cs r → Stitched x ds r → cs ≡ ds

-- walks from stops, and then round what is left, find all chains
abbrev pub WalksFindAllChains : Type 0 → Type 0
WalksFindAllChains V =
    (cmp : V → V → Ordering) (n : Network V) → IsOrder cmp → IsNetwork n → (k : V → Option (V × V)) (ds : List (List V)) →
    Found cmp n k ds → ((v : V) → k v ≡ None) → StopsCovered n ds → AreAllChains cmp n ds

-- and such walks can always be taken to their end
abbrev pub WalksEnd : Type 0 → Type 0
WalksEnd V =
    (cmp : V → V → Ordering) (n : Network V) → IsOrder cmp → IsNetwork n →
    (k : V → Option (V × V)) × (ds : List (List V)) × Found cmp n k ds × ((v : V) → k v ≡ None) × StopsCovered n ds

-- the segments and the junctions of a map are such segments and stops, and have the chains of the map
abbrev pub MapIsANetwork : Type 0 → Type 0
MapIsANetwork V =
    (cmp : V → V → Ordering) (g : Geometry V) → IsOrder cmp → IsSound g →
    IsNetwork (network_of cmp g) × IsNetworkOf (network_of cmp g) g ×
    ((c : List V) → IsChainOf cmp g c ↔ IsChainIn cmp (network_of cmp g) c)

-- Junctions.

-- a vertex is a junction exactly where it is an end of a line or lies on three or more segments
abbrev pub JunctionBySegments : Type 0 → Type 0
JunctionBySegments V =
    (cmp : V → V → Ordering) (g : Geometry V) → IsOrder cmp → IsSound g →
    (v : V) → JunctionOf g v ↔ (((l : List V) × IsLineOf g l × EndOf v l) ⊎ OnThree (SegmentOf g) v)

-- a vertex that one line or ring visits again is a junction
abbrev pub VisitedAgainIsAJunction : Type 0 → Type 0
VisitedAgainIsAJunction V =
    (cmp : V → V → Ordering) (g : Geometry V) → IsOrder cmp → IsSound g →
    (v : V) (l : List V) → IsLineOf g l ⊎ IsRingOf g l → Twice v l → JunctionOf g v

-- each other vertex of a segment lies on exactly two segments
abbrev pub OthersOnTwoSegments : Type 0 → Type 0
OthersOnTwoSegments V =
    (cmp : V → V → Ordering) (g : Geometry V) → IsOrder cmp → IsSound g → TwoSegments (SegmentOf g) (JunctionOf g)

-- Pieces of lines and rings.

-- a line, cut at its junctions: chains that stitch to it
abbrev pub PiecesOfALine : Type 0 → Type 0
PiecesOfALine V =
    (cmp : V → V → Ordering) (g : Geometry V) → IsOrder cmp → IsSound g →
    (l : List V) → IsLineOf g l → ArePiecesOf cmp g l (line_cut (is_junction cmp g) l)

-- a ring, turned to its seam and cut at its junctions: chains that stitch to it
abbrev pub PiecesOfARing : Type 0 → Type 0
PiecesOfARing V =
    (cmp : V → V → Ordering) (g : Geometry V) → IsOrder cmp → IsSound g →
    (r : List V) → IsRingOf g r → AreRingPiecesOf cmp g r (ring_cut cmp (is_junction cmp g) r)

-- what stitches to a list has its segments, all and no others
abbrev pub PiecesCover : Type 0 → Type 0
PiecesCover V =
    (x : V) (r : List V) (ps : List (List V)) → Stitched x ps r →
    (u v : V) → Beside u v (x ∷ r) ↔ ((p : List V) × Has p ps × Beside u v p)

-- a ring without a junction is one free loop, turned to its least vertex
abbrev pub OneFreeLoop : Type 0 → Type 0
OneFreeLoop V =
    (cmp : V → V → Ordering) (g : Geometry V) → IsOrder cmp → IsSound g → (r : List V) → IsRingOf g r → Free (JunctionOf g) r →
    (x : V) × (l : List V) × IsTurned cmp (JunctionOf g) r x l × IsLeastOf cmp Any r x ×
    (ring_cut cmp (is_junction cmp g) r ≡ closed (x ∷ l) ∷ []) × IsChainOf cmp g (closed (x ∷ l)) × Free (JunctionOf g) (closed (x ∷ l))

-- the list of a ring does not depend on where its data begins
abbrev pub RingFromAnyPlace : Type 0 → Type 0
RingFromAnyPlace V =
    (cmp : V → V → Ordering) (g : Geometry V) (arcs : List (List V)) (a b : List V) (used : List ArcRef) →
    IsRotation a b → IsRingList cmp (JunctionOf g) arcs a used → IsRingList cmp (JunctionOf g) arcs b used

-- of the rotations of a ring that begin at one vertex, that with the least second vertex is the least
abbrev pub LeastSecondVertex : Type 0 → Type 0
LeastSecondVertex V =
    (cmp : V → V → Ordering) → IsOrder cmp → (r : List V) (x y : V) (l : List V) → IsRing r → IsRotation r (x ∷ (y ∷ l)) →
    ((z : V) (m : List V) → IsRotation r (x ∷ (z ∷ m)) → AtMost cmp y z) →
    (m : List V) → IsRotation r (x ∷ m) → AtMost (slice_cmp cmp) (x ∷ (y ∷ l)) (x ∷ m)

-- Arcs.

-- the pieces of all lines and rings, in least direction, sorted, each once, are the arcs of the map
abbrev pub PiecesAreTheArcs : Type 0 → Type 0
PiecesAreTheArcs V =
    (cmp : V → V → Ordering) (g : Geometry V) → IsOrder cmp → IsSound g → (ps arcs : List (List V)) →
    HaveAllPieces cmp g ps → ((c : List V) → Has c ps → IsArcOf cmp g c) → AreSortedOnce (slice_cmp cmp) ps arcs → AreArcsOf cmp g arcs

-- `arcs_of` has the arcs of the map, and no other list has them
abbrev pub ArcsOfAMap : Type 0 → Type 0
ArcsOfAMap V =
    (cmp : V → V → Ordering) (g : Geometry V) → IsOrder cmp → IsSound g →
    AreArcsOf cmp g (arcs_of cmp g) × ((arcs : List (List V)) → AreArcsOf cmp g arcs → arcs ≡ arcs_of cmp g)

-- each segment of the map is at one place of one arc, and arcs have no other segment
abbrev pub SegmentsOnce : Type 0 → Type 0
SegmentsOnce V =
    (cmp : V → V → Ordering) (g : Geometry V) → IsOrder cmp → IsSound g →
    (arcs : List (List V)) → AreArcsOf cmp g arcs → EachSegmentOnce g arcs

-- at most one list of arc numbers stitches to a list
abbrev pub OneListOfNumbers : Type 0 → Type 0
OneListOfNumbers V =
    (cmp : V → V → Ordering) (g : Geometry V) → IsOrder cmp → IsSound g → (arcs : List (List V)) → AreArcsOf cmp g arcs →
    (l : List V) (us vs : List ArcRef) → StitchTo arcs us l → StitchTo arcs vs l → us ≡ vs

-- at most one list of arc numbers stitches to a ring, read from its seam
abbrev pub OneListOfARing : Type 0 → Type 0
OneListOfARing V =
    (cmp : V → V → Ordering) (g : Geometry V) → IsOrder cmp → IsSound g → (arcs : List (List V)) → AreArcsOf cmp g arcs →
    (r : List V) (us vs : List ArcRef) → IsRingList cmp (JunctionOf g) arcs r us → IsRingList cmp (JunctionOf g) arcs r vs → us ≡ vs

-- of the used arcs of a ring, turned in any way, the ring's list begins at that which starts least
abbrev pub RingBeginsAtLeastStart : Type 0 → Type 0
RingBeginsAtLeastStart V =
    (cmp : V → V → Ordering) (g : Geometry V) → IsOrder cmp → IsSound g → (arcs : List (List V)) → AreArcsOf cmp g arcs →
    (r : List V) → IsRingOf g r → (before behind before' : List ArcRef) (a : ArcRef) (more : List ArcRef) (y z : V) (q : List V) →
    IsRingList cmp (JunctionOf g) arcs r (behind ++ before) → before' ++ (a ∷ more) ≡ before ++ behind →
    along arcs a ≡ Some (y ∷ (z ∷ q)) → StartsLeast cmp arcs y z (before ++ behind) → (a ∷ more) ++ before' ≡ behind ++ before

-- The topology of a map.

-- at most one topology is that of a map on a grid
abbrev pub OneTopology : Type 0 → Type 0 → Type 0 → Type 0 → Type 0
OneTopology V I G B =
    (cmp : V → V → Ordering) (box_of : G → List V → Option B) (on : G) (m : Map I V) → IsOrder cmp → IsSound (geometry_of m) →
    (s t : Topology G I V B) → IsTopologyOf cmp box_of on m s → IsTopologyOf cmp box_of on m t → s ≡ t

-- and `topology_of` is it
abbrev pub TopologyOfAMap : Type 0 → Type 0 → Type 0 → Type 0 → Type 0
TopologyOfAMap V I G B =
    (cmp : V → V → Ordering) (box_of : G → List V → Option B) (on : G) (m : Map I V) → IsOrder cmp → IsSound (geometry_of m) →
    IsTopologyOf cmp box_of on m (topology_of cmp box_of on m)

-- the features that have a segment are those whose geometries use its arc
abbrev pub UsersOfAnArc : Type 0 → Type 0
UsersOfAnArc V =
    (cmp : V → V → Ordering) (g : Geometry V) → IsOrder cmp → IsSound g → (arcs : List (List V)) → AreArcsOf cmp g arcs →
    (f : Shape V) (h : Body V) → IsFormOf (λ l used. StitchTo arcs used l) (IsRingList cmp (JunctionOf g) arcs) f h →
    ((r : List V) → Has r (rings_in f) → IsRingOf g r) →
    (k : ℕ) (c : List V) (u v : V) → slice_get arcs k ≡ Some c → Beside u v c → HasSegment u v f ↔ UsesArc k h

-- two features of a map share a segment exactly where their geometries share an arc
abbrev pub SharedSegmentIsASharedArc : Type 0 → Type 0
SharedSegmentIsASharedArc V =
    (cmp : V → V → Ordering) (g : Geometry V) → IsOrder cmp → IsSound g → (arcs : List (List V)) → AreArcsOf cmp g arcs →
    (f f' : Shape V) (h h' : Body V) →
    IsFormOf (λ l used. StitchTo arcs used l) (IsRingList cmp (JunctionOf g) arcs) f h →
    IsFormOf (λ l used. StitchTo arcs used l) (IsRingList cmp (JunctionOf g) arcs) f' h' →
    ((r : List V) → Has r (rings_in f) → IsRingOf g r) → ((r : List V) → Has r (rings_in f') → IsRingOf g r) →
    ((u v : V) → HasSegment u v f → SegmentOf g u v) → ShareSegment f f' ↔ ShareArc h h'

-- Refinement: a map g whose lines and rings are among those of u, and the union u of two maps m and n.

-- junctions only grow
abbrev pub JunctionsOnlyGrow : Type 0 → Type 0
JunctionsOnlyGrow V = (g u : Geometry V) → IsPartOf g u → (v : V) → JunctionOf g v → JunctionOf u v

-- each old arc has one list of pieces: what `recut` gives
abbrev pub OneListOfPieces : Type 0 → Type 0
OneListOfPieces V =
    (cmp : V → V → Ordering) (g u : Geometry V) → IsOrder cmp → IsSound g → IsSound u → IsPartOf g u →
    (arcs table : List (List V)) → AreArcsOf cmp g arcs → AreArcsOf cmp u table →
    IsRefinementOf cmp g u arcs table (recut cmp g u arcs table) ×
    ((pieces : List (List ArcRef)) → IsRefinementOf cmp g u arcs table pieces → pieces ≡ recut cmp g u arcs table)

-- each arc of the union is a piece of an old arc
abbrev pub ArcsOfAUnionArePieces : Type 0 → Type 0
ArcsOfAUnionArePieces V =
    (cmp : V → V → Ordering) (m n u : Geometry V) → IsOrder cmp → IsSound m → IsSound n → IsSound u → IsUnionOf m n u →
    (ms ns table : List (List V)) (left right : List (List ArcRef)) →
    IsRefinementOf cmp m u ms table left → IsRefinementOf cmp n u ns table right →
    (k : ℕ) (d : List V) → slice_get table k ≡ Some d →
    ((i : ℕ) × Uses k (pieces_at left i)) ⊎ ((i : ℕ) × Uses k (pieces_at right i))

-- a piece is one of one arc of a map, at one place, and has only its segments; a line's and a ring's replaced list is that of u
abbrev pub PiecesInPlace : Type 0 → Type 0
PiecesInPlace V =
    (cmp : V → V → Ordering) (g u : Geometry V) → IsOrder cmp → IsSound g → IsSound u → IsPartOf g u →
    (arcs table : List (List V)) (pieces : List (List ArcRef)) → IsRefinementOf cmp g u arcs table pieces →
    RefinementLaws cmp g u arcs table pieces

-- the list of a ring: its pieces in place of each old arc, turned to begin where it starts least
abbrev pub RingReplacedAndTurned : Type 0 → Type 0
RingReplacedAndTurned V =
    (cmp : V → V → Ordering) (g u : Geometry V) → IsOrder cmp → IsSound g → IsSound u → IsPartOf g u →
    (arcs table : List (List V)) (pieces : List (List ArcRef)) → IsRefinementOf cmp g u arcs table pieces →
    (r : List V) (used : List ArcRef) → IsRingOf g r → IsRingList cmp (JunctionOf g) arcs r used →
    IsRingList cmp (JunctionOf u) table r (turned_used cmp table (replaced pieces used))

-- the geometry of a feature after its arcs are cut again is its geometry in the finer map
abbrev pub BodyAfterARecut : Type 0 → Type 0
BodyAfterARecut V =
    (cmp : V → V → Ordering) (g u : Geometry V) → IsOrder cmp → IsSound g → IsSound u → IsPartOf g u →
    (arcs table : List (List V)) (pieces : List (List ArcRef)) → IsRefinementOf cmp g u arcs table pieces →
    (f : Shape V) (h : Body V) → ((l : List V) → Has l (lines_in f) → IsLineOf g l) → ((r : List V) → Has r (rings_in f) → IsRingOf g r) →
    IsFormOf (λ l used. StitchTo arcs used l) (IsRingList cmp (JunctionOf g) arcs) f h →
    IsFormOf (λ l used. StitchTo table used l) (IsRingList cmp (JunctionOf u) table) f (recut_body cmp table pieces h)

-- the arcs of both maps, taken as lines and rings, have the segments and the junctions of the union
abbrev pub UnionKnownFromArcs : Type 0 → Type 0
UnionKnownFromArcs V =
    (cmp : V → V → Ordering) (m n u : Geometry V) → IsOrder cmp → IsSound m → IsSound n → IsSound u → IsUnionOf m n u →
    (ms ns : List (List V)) → AreArcsOf cmp m ms → AreArcsOf cmp n ns →
    IsSound (both_of (arcs_as_map cmp m ms) (arcs_as_map cmp n ns)) × Alike (both_of (arcs_as_map cmp m ms) (arcs_as_map cmp n ns)) u

-- what is left of a map u: of each old arc all segments stay, or none
abbrev pub PiecesOfWhatIsLeft : Type 0 → Type 0
PiecesOfWhatIsLeft V =
    (cmp : V → V → Ordering) (g u : Geometry V) → IsOrder cmp → IsSound g → IsSound u → IsPartOf g u →
    (arcs table : List (List V)) (pieces : List (List ArcRef)) → IsRefinementOf cmp g u arcs table pieces →
    RemovalLaws g u table pieces
