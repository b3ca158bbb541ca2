-- The arcs of a map cut again under the junctions of a map that has all of its lines and rings.
use Rattle.std.specs.Prelude.{◌≡◌, List, ◌⊎◌, ℕ, zero, suc, Bool, cond, not, [], ◌∷◌, ◌++◌, map, Some, slice_get, Option, None}
use Rattle.std.specs.Cmp.Lexicographic.{slice_cmp}
use Rattle.std.specs.declared.cmp.Ordering.{Ordering}
use Rattle.theory.specs.ArcNumbers.{along, ArcRef, backwards, StitchTo, Uses, UsesOnce}
use Rattle.theory.specs.Arcs.{AreArcsOf}
use Rattle.theory.specs.Chain.{Free}
use Rattle.theory.specs.Geometry.{Geometry, IsLineOf, IsRingOf, JunctionOf, SegmentOf}
use Rattle.theory.specs.LinesAndRings.{closed}
use Rattle.theory.specs.Lists.{Beside, Has, Pairwise, front_of}
use Rattle.theory.specs.Topology.{Body, IsRingList}
use Rattle.theory.specs.TopologyFunction.{form_map, is_junction, keep, least_list, line_cut, ref_of, ring_cut, rotations, some}

-- in the one or in the other
abbrev pub Either : {A : Type 0} → (A → Type 0) → (A → Type 0) → A → Type 0
Either P Q x = P x ⊎ Q x

-- each line and ring of g is one of u
pub record IsPartOf {V : Type 0} (g u : Geometry V) : Type 0 where
  pub lines : (l : List V) → IsLineOf g l → IsLineOf u l
  pub rings : (r : List V) → IsRingOf g r → IsRingOf u r

-- u has the lines and the rings of both, and no others
pub record IsUnionOf {V : Type 0} (m n u : Geometry V) : Type 0 where
  pub left : IsPartOf m u
  pub right : IsPartOf n u
  pub lines : (l : List V) → IsLineOf u l → IsLineOf m l ⊎ IsLineOf n l
  pub rings : (r : List V) → IsRingOf u r → IsRingOf m r ⊎ IsRingOf n r

-- the pieces of arc i
abbrev pub pieces_at : List (List ArcRef) → ℕ → List ArcRef
pieces_at [] i = []
pieces_at (p ∷ ps) zero = p
pieces_at (p ∷ ps) (suc i) = pieces_at ps i

-- the pieces of a used arc
abbrev pub pieces_of_used : List (List ArcRef) → ArcRef → List ArcRef
pieces_of_used pieces a = cond a.reversed (backwards (pieces_at pieces a.arc)) (pieces_at pieces a.arc)

-- in place of each used arc its pieces [TopoJSON, 2.1.4; own]
abbrev pub replaced : List (List ArcRef) → List ArcRef → List ArcRef
replaced pieces [] = []
replaced pieces (a ∷ used) = pieces_of_used pieces a ++ replaced pieces used

-- the first two vertices of a list
abbrev pub first_two : {V : Type 0} → Option (List V) → List V
first_two None = []
first_two (Some []) = []
first_two (Some (x ∷ [])) = x ∷ []
first_two (Some (x ∷ (y ∷ r))) = x ∷ (y ∷ [])

-- the first two vertices along the first used arc
abbrev pub start_of : {V : Type 0} → List (List V) → List ArcRef → List V
start_of arcs [] = []
start_of arcs (a ∷ used) = first_two (along arcs a)

-- the used arcs of a ring, turned to begin where they start least
abbrev pub turned_used : {V : Type 0} → (V → V → Ordering) → List (List V) → List ArcRef → List ArcRef
turned_used cmp arcs used = least_list (λ a b. slice_cmp cmp (start_of arcs a) (start_of arcs b)) (rotations used)

-- a body after its arcs are cut again: the list of each line replaced, that of each ring replaced and turned
abbrev pub recut_body : {V : Type 0} → (V → V → Ordering) → List (List V) → List (List ArcRef) → Body V → Body V
recut_body cmp table pieces b = form_map (replaced pieces) (λ used. turned_used cmp table (replaced pieces used)) b

-- the used arcs of the table stitch to the arc c, or, where c is free under J, to c turned as a ring is under L
abbrev pub ArePiecesOfArc : {V : Type 0} → (V → V → Ordering) → (V → Type 0) → (V → Type 0) → List (List V) → List V → List ArcRef → Type 0
ArePiecesOfArc {V} cmp J L table c used =
    ((¬ Free J c) × StitchTo table used c)
    ⊎ ((loop : List V) × (c ≡ closed loop) × Free J c × IsRingList cmp L table loop used)

-- pieces has for each arc of g the arcs of u that it is cut into
pub record IsRefinementOf {V : Type 0} (cmp : V → V → Ordering) (g u : Geometry V) (arcs table : List (List V)) (pieces : List (List ArcRef)) : Type 0 where
  pub old : AreArcsOf cmp g arcs
  pub new : AreArcsOf cmp u table
  pub cut : Pairwise (ArePiecesOfArc cmp (JunctionOf g) (JunctionOf u) table) arcs pieces

-- a closed list without its last vertex: the ring that it goes round
abbrev pub unclosed : {V : Type 0} → List V → List V
unclosed [] = []
unclosed (x ∷ r) = front_of x r

-- the pieces of an arc of g under the stops of u: cut as a line, or, where g has no junction on it, as a ring
abbrev pub arc_cut : {V : Type 0} → (V → V → Ordering) → (V → Bool) → (V → Bool) → List V → List (List V)
arc_cut cmp old stop c = cond (some old c) (line_cut stop c) (ring_cut cmp stop (unclosed c))

-- for each arc of g the numbers, in u's table, of its pieces
abbrev pub recut : {V : Type 0} → (V → V → Ordering) → Geometry V → Geometry V → List (List V) → List (List V) → List (List ArcRef)
recut cmp g u arcs table = map (λ c. map (ref_of cmp table) (arc_cut cmp (is_junction cmp g) (is_junction cmp u) c)) arcs

-- what follows from a refinement
pub record RefinementLaws {V : Type 0} (cmp : V → V → Ordering) (g u : Geometry V) (arcs table : List (List V)) (pieces : List (List ArcRef)) : Type 0 where
  -- an arc of u that has a segment of g is a piece of an arc of g, and all its segments are those of that arc
  pub home : (k : ℕ) (d : List V) (a b : V) → slice_get table k ≡ Some d → Beside a b d → SegmentOf g a b →
      (i : ℕ) × (c : List V) × (slice_get arcs i ≡ Some c) × Uses k (pieces_at pieces i) × ((v w : V) → Beside v w d → Beside v w c)
  -- what is a piece has only segments of its arc
  pub inside : (k i : ℕ) (c d : List V) → slice_get arcs i ≡ Some c → slice_get table k ≡ Some d → Uses k (pieces_at pieces i) →
      (v w : V) → Beside v w d → Beside v w c
  -- of one arc alone, and at one place of its list
  pub one_home : (k i j : ℕ) → Uses k (pieces_at pieces i) → Uses k (pieces_at pieces j) → i ≡ j
  pub one_place : (i : ℕ) → UsesOnce (pieces_at pieces i)
  -- the list of a line, and of a ring
  pub line : (l : List V) (used : List ArcRef) → IsLineOf g l → StitchTo arcs used l → StitchTo table (replaced pieces used) l
  pub ring : (r : List V) (used : List ArcRef) → IsRingOf g r → IsRingList cmp (JunctionOf g) arcs r used →
      (before : List ArcRef) × (behind : List ArcRef) × (replaced pieces used ≡ before ++ behind) ×
      IsRingList cmp (JunctionOf u) table r (behind ++ before)

-- an arc of g with a junction on it
abbrev pub OpenArc : {V : Type 0} → Geometry V → List (List V) → List V → Type 0
OpenArc g arcs l = Has l arcs × (¬ Free (JunctionOf g) l)

-- a ring that, closed, is an arc of g without a junction
abbrev pub LoopArc : {V : Type 0} → Geometry V → List (List V) → List V → Type 0
LoopArc g arcs r = Has (closed r) arcs × Free (JunctionOf g) (closed r)

-- a has the arcs of m and of n that are not free as its lines, and the free loops as its rings
pub record AreArcsAsMap {V : Type 0} (m n : Geometry V) (ms ns : List (List V)) (a : Geometry V) : Type 0 where
  pub lines : (l : List V) → IsLineOf a l → OpenArc m ms l ⊎ OpenArc n ns l
  pub rings : (r : List V) → IsRingOf a r → LoopArc m ms r ⊎ LoopArc n ns r
  pub open_left : (l : List V) → OpenArc m ms l → IsLineOf a l
  pub open_right : (l : List V) → OpenArc n ns l → IsLineOf a l
  pub loop_left : (r : List V) → LoopArc m ms r → IsRingOf a r
  pub loop_right : (r : List V) → LoopArc n ns r → IsRingOf a r

-- the arcs as a map: those that are not free as its lines, the free loops as its rings
abbrev pub arcs_as_map : {V : Type 0} → (V → V → Ordering) → Geometry V → List (List V) → Geometry V
arcs_as_map cmp g arcs = record {
  lines = keep (some (is_junction cmp g)) arcs;
  rings = map unclosed (keep (λ c. not (some (is_junction cmp g) c)) arcs);
}

-- the lines and the rings of both
abbrev pub both_of : {V : Type 0} → Geometry V → Geometry V → Geometry V
both_of a b = record { lines = a.lines ++ b.lines; rings = a.rings ++ b.rings }

-- the two maps have the same segments and the same junctions
pub record Alike {V : Type 0} (a u : Geometry V) : Type 0 where
  pub segments : (x y : V) → SegmentOf a x y → SegmentOf u x y
  pub segments_back : (x y : V) → SegmentOf u x y → SegmentOf a x y
  pub junctions : (v : V) → JunctionOf a v → JunctionOf u v
  pub junctions_back : (v : V) → JunctionOf u v → JunctionOf a v

-- what is left of a map, g, of the map u: what holds of the old arcs that a new arc is cut into
pub record RemovalLaws {V : Type 0} (g u : Geometry V) (table : List (List V)) (pieces : List (List ArcRef)) : Type 0 where
  -- an old arc of which a segment stays is used, in one list and at one place of it
  pub kept : (k : ℕ) (d : List V) (a b : V) → slice_get table k ≡ Some d → Beside a b d → SegmentOf g a b → (i : ℕ) × Uses k (pieces_at pieces i)
  pub one_list : (k i j : ℕ) → Uses k (pieces_at pieces i) → Uses k (pieces_at pieces j) → i ≡ j
  pub one_place : (i : ℕ) → UsesOnce (pieces_at pieces i)
  -- of an old arc that is used all segments stay
  pub whole : (k i : ℕ) (d : List V) → slice_get table k ≡ Some d → Uses k (pieces_at pieces i) → (a b : V) → Beside a b d → SegmentOf g a b
  -- all segments of an old arc stay, or none
  pub all_or_none : (k : ℕ) (d : List V) (a b v w : V) → slice_get table k ≡ Some d → Beside a b d → SegmentOf g a b → Beside v w d → SegmentOf g v w
