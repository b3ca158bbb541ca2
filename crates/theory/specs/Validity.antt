-- A table of arcs, and lists of used arcs, as a text has them: what a reader checks so that it may take them as they are.
use Rattle.std.specs.Cmp.Lexicographic.{slice_cmp}
use Rattle.std.specs.Prelude.{◌≡◌, ℕ, List, [], ◌∷◌, ◌++◌, ◌⊎◌, reverse, Option, Some, slice_get}
use Rattle.std.specs.declared.cmp.Ordering.{Ordering}
use Rattle.std.specs.declared.cmp.Ordering.TheVariants.{Less}
use Rattle.theory.specs.ArcNumbers.{ArcRef, StartsLeast, StitchTo, Uses, UsesOnce, along, flipped}
use Rattle.theory.specs.Arcs.{Ascends}
use Rattle.theory.specs.Chain.{Free}
use Rattle.theory.specs.Geometry.{AtMost, Geometry, IsLineOf, IsRingOf, JunctionOf}
use Rattle.theory.specs.LinesAndRings.{IsRotation, closed}
use Rattle.theory.specs.Lists.{Distinct, EndOf, Has, Pairwise, Passes, front_of, gathered, last_of}
use Rattle.theory.specs.Refinement.{turned_used}
use Rattle.theory.specs.Topology.{Body, IsFormOf, Item, Layer, Map, Shape, Topology, geometry_of, positions_of}
use Rattle.theory.specs.Users.{UsesArc}

-- a has the arcs that are not marked free as its lines, and the free ones, each without its last vertex, as its rings
pub record AreParted {V : Type 0} (arcs : List (List V)) (a : Geometry V) : Type 0 where
  pub lines : (l : List V) → IsLineOf a l → Has l arcs
  pub rings : (r : List V) → IsRingOf a r → Has (closed r) arcs
  pub each : (c : List V) → Has c arcs → IsLineOf a c ⊎ ((r : List V) × (c ≡ closed r) × IsRingOf a r)

-- what is checked of the arcs, which are the map a: once for each arc
pub record AreValidArcs {V : Type 0} (cmp : V → V → Ordering) (arcs : List (List V)) (a : Geometry V) : Type 0 where
  pub parted : AreParted arcs a
  -- in order, each once, and before its own reverse
  pub sorted : Ascends (slice_cmp cmp) arcs
  pub forward : (c : List V) → Has c arcs → slice_cmp cmp c (reverse c) ≡ Less
  -- no junction inside an arc, none on a free one
  pub inner_free : (l : List V) → IsLineOf a l → (u v w : V) → Passes u v w l → ¬ JunctionOf a v
  pub free : (r : List V) → IsRingOf a r → Free (JunctionOf a) r
  -- a free arc's first vertex comes before all others
  pub first : (x : V) (l : List V) → IsRingOf a (x ∷ l) → (v : V) → Has v l → cmp x v ≡ Less

-- the vertices of a list between its first and its last
abbrev pub inner_of : {V : Type 0} → List V → List V
inner_of [] = []
inner_of (x ∷ []) = []
inner_of (x ∷ (y ∷ r)) = front_of y r

-- the vertices inside all lines, and those of all rings
abbrev pub insides : {V : Type 0} → Geometry V → List V
insides a = gathered inner_of a.lines ++ gathered (λ r. r) a.rings

-- the same of the arcs, told without junctions: a vertex inside an arc, or on a free one, is at no other place
pub record ArcsAreNoded {V : Type 0} (cmp : V → V → Ordering) (arcs : List (List V)) (a : Geometry V) : Type 0 where
  pub parted : AreParted arcs a
  pub sorted : Ascends (slice_cmp cmp) arcs
  pub forward : (c : List V) → Has c arcs → slice_cmp cmp c (reverse c) ≡ Less
  pub once : Distinct (insides a)
  pub no_end : (l : List V) → IsLineOf a l → (v : V) → EndOf v l → ¬ Has v (insides a)
  pub first : (x : V) (l : List V) → IsRingOf a (x ∷ l) → (v : V) → Has v l → AtMost cmp x v

-- what is checked of a line's list: it is not empty, stitches, and uses no arc twice and none that is free
pub record IsListOfLine {V : Type 0} (arcs : List (List V)) (a : Geometry V) (l : List V) (used : List ArcRef) : Type 0 where
  pub some : ¬ (used ≡ [])
  pub stitch : StitchTo arcs used l
  pub once : UsesOnce used
  pub no_free : (k : ℕ) (c : List V) → Uses k used → slice_get arcs k ≡ Some c → IsLineOf a c

-- what is checked of a ring's list: it is not empty, stitches to a closed list, and uses no arc twice
pub record IsListOfRing {V : Type 0} (arcs : List (List V)) (r : List V) (used : List ArcRef) : Type 0 where
  pub some : ¬ (used ≡ [])
  pub around : (q : List V) × IsRotation r q × StitchTo arcs used (closed q)
  pub once : UsesOnce used

-- the used arcs run from v to w, each from where the one before ends
abbrev pub Runs : {V : Type 0} → List (List V) → V → List ArcRef → V → Type 0
Runs arcs v [] w = v ≡ w
Runs {V} arcs v (b ∷ used) w = (q : List V) × (along arcs b ≡ Some (v ∷ q)) × Runs arcs (last_of v q) used w

-- no used arc of the list starts before the first
abbrev pub BeginsLeast : {V : Type 0} → (V → V → Ordering) → List (List V) → List ArcRef → Type 0
BeginsLeast cmp arcs [] = ⊥
BeginsLeast {V} cmp arcs (b ∷ used) =
    (y : V) × (z : V) × (q : List V) × (along arcs b ≡ Some (y ∷ (z ∷ q))) × StartsLeast cmp arcs y z (b ∷ used)

-- what a used arc runs along begins with v
abbrev pub BeginsAt : {V : Type 0} → List (List V) → V → ArcRef → Type 0
BeginsAt {V} arcs v a = (q : List V) × (along arcs a ≡ Some (v ∷ q))

-- three different used arcs, each an arc in one of its directions, begin at v
abbrev pub ThreeBegin : {V : Type 0} → List (List V) → V → Type 0
ThreeBegin arcs v =
    (a : ArcRef) × (b : ArcRef) × (c : ArcRef) × BeginsAt arcs v a × BeginsAt arcs v b × BeginsAt arcs v c ×
    (¬ (a ≡ b)) × (¬ (a ≡ c)) × (¬ (b ≡ c))

-- the first used arc begins with v, or the last one ends with it
abbrev pub EndsList : {V : Type 0} → List (List V) → V → List ArcRef → Type 0
EndsList arcs v [] = ⊥
EndsList arcs v (b ∷ used) = BeginsAt arcs v b ⊎ BeginsAt arcs v (flipped (last_of b used))

-- arc k is used in the list of a line of g
abbrev pub InALine : {V : Type 0} → List (List V) → Geometry V → Geometry V → ℕ → Type 0
InALine {V} arcs a g k = (l : List V) × (used : List ArcRef) × IsLineOf g l × IsListOfLine arcs a l used × Uses k used

-- arc k is used in the list of a ring of g
abbrev pub InARing : {V : Type 0} → List (List V) → Geometry V → ℕ → Type 0
InARing {V} arcs g k = (r : List V) × (used : List ArcRef) × IsRingOf g r × IsListOfRing arcs r used × Uses k used

-- the arcs are valid for g: besides what is checked of them alone, and of each list, each arc is used,
-- and each end of an arc that is not free is an end of a line, or three arcs meet there
pub record AreValidFor {V : Type 0} (cmp : V → V → Ordering) (arcs : List (List V)) (a g : Geometry V) : Type 0 where
  pub alone : AreValidArcs cmp arcs a
  pub lines : (l : List V) → IsLineOf g l → (used : List ArcRef) × IsListOfLine arcs a l used
  pub rings : (r : List V) → IsRingOf g r → (used : List ArcRef) × IsListOfRing arcs r used
  pub used : (k : ℕ) (c : List V) → slice_get arcs k ≡ Some c → InALine arcs a g k ⊎ InARing arcs g k
  pub ends : (l : List V) → IsLineOf a l → (v : V) → EndOf v l → ((m : List V) × IsLineOf g m × EndOf v m) ⊎ ThreeBegin arcs v

-- the used arcs of a ring as they are read, turned to begin where they start least
abbrev pub IsReadRing : {V : Type 0} → (V → V → Ordering) → List (List V) → List V → List ArcRef → Type 0
IsReadRing cmp arcs r used = (us : List ArcRef) × IsListOfRing arcs r us × (used ≡ turned_used cmp arcs us)

-- a geometry is read: the list of each line, and of each ring but for its beginning, is that of the feature's
pub record IsReadGeometry {I V : Type 0} (cmp : V → V → Ordering) (arcs : List (List V)) (a : Geometry V)
    (f : Item I (Shape V)) (h : Item I (Body V)) : Type 0 where
  pub info : f.info ≡ h.info
  pub form : IsFormOf (IsListOfLine arcs a) (IsReadRing cmp arcs) f.form h.form

-- the same name, and the geometries of the layer's features in their order
pub record IsReadLayer {I V : Type 0} (cmp : V → V → Ordering) (arcs : List (List V)) (a : Geometry V)
    (l : Layer (Item I (Shape V))) (k : Layer (Item I (Body V))) : Type 0 where
  pub name : l.name ≡ k.name
  pub items : Pairwise (IsReadGeometry cmp arcs a) l.items k.items

-- arc k is used in a geometry of the layers
abbrev pub InLayers : {I V : Type 0} → List (Layer (Item I (Body V))) → ℕ → Type 0
InLayers {I} {V} layers k =
    (l : Layer (Item I (Body V))) × Has l layers × (h : Item I (Body V)) × Has h l.items × UsesArc k h.form

-- a topology is valid for the map m on the grid
pub record IsValidTopology {G I V B : Type 0} (cmp : V → V → Ordering) (box_of : G → List V → Option B)
    (on : G) (m : Map I V) (a : Geometry V) (t : Topology G I V B) : Type 0 where
  pub grid : t.grid ≡ on
  pub bbox : t.bbox ≡ box_of on (positions_of m)
  pub alone : AreValidArcs cmp t.arcs a
  pub layers : Pairwise (IsReadLayer cmp t.arcs a) m t.layers
  pub used : (k : ℕ) (c : List V) → slice_get t.arcs k ≡ Some c → InLayers t.layers k
  pub ends : (l : List V) → IsLineOf a l → (v : V) → EndOf v l →
      ((c : List V) × IsLineOf (geometry_of m) c × EndOf v c) ⊎ ThreeBegin t.arcs v
