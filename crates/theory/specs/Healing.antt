-- What is left of a map, told from the arcs of the whole map and from the lists of used arcs of what is left.
use Rattle.std.specs.Cmp.Lexicographic.{slice_cmp}
use Rattle.std.specs.Prelude.{◌≡◌, ℕ, zero, suc, Bool, true, false, cond, List, [], ◌∷◌, ◌++◌, length, map, reverse, ◌⊎◌, ◌↔◌, Option, Some, None, slice_get}
use Rattle.std.specs.declared.cmp.Ordering.{Ordering}
use Rattle.std.specs.declared.cmp.Ordering.TheVariants.{Less}
use Rattle.theory.specs.ArcNumbers.{ArcRef, StitchTo, Uses, UsesOnce, along}
use Rattle.theory.specs.Arcs.{Ascends, IsArcOf}
use Rattle.theory.specs.Chain.{Free}
use Rattle.theory.specs.Geometry.{AtMost, Geometry, IsLineOf, IsRingOf, JunctionOf, SegmentOf}
use Rattle.theory.specs.LinesAndRings.{IsRotation, closed}
use Rattle.theory.specs.Lists.{Beside, EndOf, Has, Pairwise, Passes}
use Rattle.theory.specs.Refinement.{pieces_at, pieces_of_used, turned_used}
use Rattle.theory.specs.Segments.{OnThree}
use Rattle.theory.specs.Validity.{BeginsAt, EndsList}
use Rattle.theory.specs.Topology.{Body, IsRingList, Item, Layer, lines_in}
use Rattle.theory.specs.TopologyFunction.{form_map}

-- arc k of the table, which has the arcs of u, is used in the list of a line or of a ring of g
abbrev pub IsKept : {V : Type 0} → (V → V → Ordering) → Geometry V → Geometry V → List (List V) → ℕ → Type 0
IsKept {V} cmp g u table k =
    ((l : List V) × (used : List ArcRef) × IsLineOf g l × StitchTo table used l × Uses k used)
    ⊎ ((r : List V) × (used : List ArcRef) × IsRingOf g r × IsRingList cmp (JunctionOf u) table r used × Uses k used)

-- the list of a line of g, by the table, begins or ends at v
abbrev pub IsLineEnd : {V : Type 0} → Geometry V → List (List V) → V → Type 0
IsLineEnd {V} g table v = (l : List V) × (used : List ArcRef) × IsLineOf g l × StitchTo table used l × EndsList table v used

-- three ends of such arcs meet at v; an arc's two ends count apart, and so do those of a closed arc
abbrev pub ThreeMeet : {V : Type 0} → (ℕ → Type 0) → List (List V) → V → Type 0
ThreeMeet kept table v =
    (a : ArcRef) × (b : ArcRef) × (c : ArcRef) × kept a.arc × kept b.arc × kept c.arc ×
    BeginsAt table v a × BeginsAt table v b × BeginsAt table v c × (¬ (a ≡ b)) × (¬ (a ≡ c)) × (¬ (b ≡ c))

-- such an arc begins, in one of its directions, with v and then w
abbrev pub EndBeside : {V : Type 0} → (ℕ → Type 0) → List (List V) → V → V → Type 0
EndBeside {V} kept table v w = (a : ArcRef) × kept a.arc × (q : List V) × (along table a ≡ Some (v ∷ (w ∷ q)))

-- the segments and junctions of g, told by the kept arcs of u
pub record KeptLaws {V : Type 0} (cmp : V → V → Ordering) (g u : Geometry V) (table : List (List V)) : Type 0 where
  -- the segments are those of the kept arcs
  pub segments : (a b : V) → SegmentOf g a b ↔ ((k : ℕ) × (d : List V) × IsKept cmp g u table k × (slice_get table k ≡ Some d) × Beside a b d)
  -- a kept arc is used in each list that has one of its segments, so that one list that stitches tells
  pub whole : (k : ℕ) (d : List V) (a b : V) → slice_get table k ≡ Some d → Beside a b d → SegmentOf g a b → IsKept cmp g u table k
  -- the junctions: the ends of lines, and where three ends of kept arcs meet
  pub junctions : (v : V) → JunctionOf g v ↔ (IsLineEnd g table v ⊎ ThreeMeet (IsKept cmp g u table) table v)
  -- the same by the vertices beside
  pub by_neighbours : (v : V) → JunctionOf g v ↔ (IsLineEnd g table v ⊎ OnThree (EndBeside (IsKept cmp g u table) table) v)
  -- inside an arc there is none, and on a free loop there is none
  pub inner_free : (k : ℕ) (d : List V) → slice_get table k ≡ Some d → (a v b : V) → Passes a v b d → ¬ JunctionOf g v
  pub loop_free : (k : ℕ) (d : List V) → slice_get table k ≡ Some d → Free (JunctionOf u) d → Free (JunctionOf g) d
  -- a kept arc with two junctions for its ends, and a kept free loop, is an arc of g
  pub stands : (k : ℕ) (d : List V) → IsKept cmp g u table k → slice_get table k ≡ Some d → ((v : V) → EndOf v d → JunctionOf g v) → IsArcOf cmp g d
  pub loop_holds : (k : ℕ) (d : List V) → IsKept cmp g u table k → slice_get table k ≡ Some d → Free (JunctionOf u) d → IsArcOf cmp g d

-- of a used old arc: the used new arc that begins with it, and how many of its pieces follow
abbrev pub Starts : Type 0
Starts = ArcRef → Option (ArcRef × ℕ)

-- each used new arc is noted at the used old arc that it begins with, and nothing else is noted
pub record AreStarts (pieces : List (List ArcRef)) (starts : Starts) : Type 0 where
  pub recorded : (a b : ArcRef) (more : List ArcRef) → pieces_of_used pieces b ≡ a ∷ more → starts a ≡ Some (b, length more)
  pub only : (a b : ArcRef) (n : ℕ) → starts a ≡ Some (b, n) → (more : List ArcRef) × (pieces_of_used pieces b ≡ a ∷ more) × (length more ≡ n)

-- the new arc, if one begins
abbrev pub written : Option (ArcRef × ℕ) → List ArcRef
written None = []
written (Some p) = p.0 ∷ []

-- how many old arcs it takes besides
abbrev pub skipped : Option (ArcRef × ℕ) → ℕ
skipped None = zero
skipped (Some p) = p.1

-- the new list along an old one of which the first n are skipped: each new arc in place of its pieces
abbrev pub healed_list : Starts → ℕ → List ArcRef → List ArcRef
healed_list starts n [] = []
healed_list starts (suc n) (a ∷ old) = healed_list starts n old
healed_list starts zero (a ∷ old) = written (starts a) ++ healed_list starts (skipped (starts a)) old

abbrev pub is_start : Option (ArcRef × ℕ) → Bool
is_start None = false
is_start (Some p) = true

-- the old arcs before the first that begins a new one, and those from it on
abbrev pub before_start : Starts → List ArcRef → List ArcRef
before_start starts [] = []
before_start starts (a ∷ old) = cond (is_start (starts a)) [] (a ∷ before_start starts old)

-- the old arcs from the first that begins a new one on
abbrev pub from_start : Starts → List ArcRef → List ArcRef
from_start starts [] = []
from_start starts (a ∷ old) = cond (is_start (starts a)) (a ∷ old) (from_start starts old)

-- the new list of a ring: from the first old arc that begins a new one, turned to begin where it starts least
abbrev pub healed_ring_list : {V : Type 0} → (V → V → Ordering) → List (List V) → Starts → List ArcRef → List ArcRef
healed_ring_list cmp arcs starts old = turned_used cmp arcs (healed_list starts zero (from_start starts old ++ before_start starts old))

-- a body after its arcs are joined
abbrev pub healed_body : {V : Type 0} → (V → V → Ordering) → List (List V) → Starts → Body V → Body V
healed_body cmp arcs starts b = form_map (healed_list starts zero) (healed_ring_list cmp arcs starts) b

-- used arcs that stitch to the list l: such as are kept, and none twice
pub record IsRun {V : Type 0} (kept : ℕ → Type 0) (table : List (List V)) (used : List ArcRef) (l : List V) : Type 0 where
  pub some : ¬ (used ≡ [])
  pub stitch : StitchTo table used l
  pub once : UsesOnce used
  pub stays : (k : ℕ) → Uses k used → kept k

-- b is behind the first
abbrev pub Behind : ArcRef → List ArcRef → Type 0
Behind b [] = ⊥
Behind b (a ∷ used) = Has b used

-- c is joined of the used arcs: from stop to stop, and they meet at no stop
pub record IsOpenRun {V : Type 0} (kept : ℕ → Type 0) (stop : V → Type 0) (table : List (List V)) (c : List V) (used : List ArcRef) : Type 0 where
  pub run : IsRun kept table used c
  pub ends : (v : V) → EndOf v c → stop v
  pub meets : (b : ArcRef) (v : V) → Behind b used → BeginsAt table v b → ¬ stop v

-- c is joined of used arcs that go round without a stop: `from` is their list from any one of them on, and round what they run along;
-- c goes the same way round from its least vertex, and its list of used arcs begins where it starts least
pub record IsLoopRun {V : Type 0} (cmp : V → V → Ordering) (kept : ℕ → Type 0) (stop : V → Type 0) (table : List (List V)) (c : List V) (used : List ArcRef) : Type 0 where
  pub from : List ArcRef
  pub round : List V
  pub first : V
  pub rest : List V
  pub run : IsRun kept table from (closed round)
  pub meets : (b : ArcRef) (v : V) → Has b from → BeginsAt table v b → ¬ stop v
  pub turned : IsRotation round (first ∷ rest)
  pub least : (v : V) → Has v round → AtMost cmp first v
  pub arc : c ≡ closed (first ∷ rest)
  pub list : used ≡ turned_used cmp table from

-- the new arcs are joined of the kept ones, each of which is used; they are in order, and each comes before its own reverse
pub record AreJoined {V : Type 0} (cmp : V → V → Ordering) (g u : Geometry V) (table arcs : List (List V)) (pieces : List (List ArcRef)) : Type 0 where
  pub sorted : Ascends (slice_cmp cmp) arcs
  pub forward : (c : List V) → Has c arcs → slice_cmp cmp c (reverse c) ≡ Less
  pub each : Pairwise (λ c used. IsOpenRun (IsKept cmp g u table) (JunctionOf g) table c used ⊎ IsLoopRun cmp (IsKept cmp g u table) (JunctionOf g) table c used) arcs pieces
  pub all : (k : ℕ) → IsKept cmp g u table k → (i : ℕ) × Uses k (pieces_at pieces i)

-- each layer of n has the name of a layer of m, and of its features or geometries some
abbrev pub IsLess : {F : Type 0} → List (Layer F) → List (Layer F) → Type 0
IsLess {F} n m = (l : Layer F) → Has l n → (k : Layer F) × Has k m × (l.name ≡ k.name) × ((f : F) → Has f l.items → Has f k.items)

-- those members that are marked
abbrev pub marked : {A : Type 0} → List Bool → List A → List A
marked [] l = []
marked (b ∷ marks) [] = []
marked (b ∷ marks) (x ∷ l) = cond b (x ∷ marked marks l) (marked marks l)

-- layer by layer, those features or geometries that are marked
abbrev pub less : {F : Type 0} → List (List Bool) → List (Layer F) → List (Layer F)
less [] layers = []
less (marks ∷ more) [] = []
less (marks ∷ more) (l ∷ layers) = record { name = l.name; items = marked marks l.items } ∷ less more layers

-- the list of a line among the layers begins or ends at v
abbrev pub EndsInLayers : {I V : Type 0} → List (List V) → List (Layer (Item I (Body V))) → V → Type 0
EndsInLayers {I} {V} table layers v =
    (l : Layer (Item I (Body V))) × Has l layers × (h : Item I (Body V)) × Has h l.items ×
    (used : List ArcRef) × Has used (lines_in h.form) × EndsList table v used

-- a layer of geometries after its arcs are joined
abbrev pub healed_layer : {I V : Type 0} → (V → V → Ordering) → List (List V) → Starts → Layer (Item I (Body V)) → Layer (Item I (Body V))
healed_layer cmp arcs starts k = record { name = k.name; items = map (λ h. record { info = h.info; form = healed_body cmp arcs starts h.form }) k.items }

-- besides a, one other end of such an arc is at v, and no third
abbrev pub TwoMeet : {V : Type 0} → (ℕ → Type 0) → List (List V) → V → ArcRef → Type 0
TwoMeet kept table v a =
    (b : ArcRef) × (¬ (a ≡ b)) × kept b.arc × BeginsAt table v b × ((c : ArcRef) → kept c.arc → BeginsAt table v c → (c ≡ a) ⊎ (c ≡ b))

-- used arcs that go round a loop c, turned to begin where they start least: c is cut from any one of them on
pub record IsLoopCut {V : Type 0} (cmp : V → V → Ordering) (table : List (List V)) (c : List V) (used : List ArcRef) : Type 0 where
  pub from : List ArcRef
  pub round : List V
  pub loop : List V
  pub some : ¬ (from ≡ [])
  pub stitch : StitchTo table from (closed round)
  pub once : UsesOnce from
  pub turned : IsRotation loop round
  pub arc : c ≡ closed loop
  pub list : used ≡ turned_used cmp table from

-- the used arcs stitch to the arc c of g, or, where no junction of g is on it, go round it
abbrev pub IsCut : {V : Type 0} → (V → V → Ordering) → Geometry V → List (List V) → List V → List ArcRef → Type 0
IsCut cmp g table c used = ((¬ Free (JunctionOf g) c) × StitchTo table used c) ⊎ (Free (JunctionOf g) c × IsLoopCut cmp table c used)
