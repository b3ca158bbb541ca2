-- The features that have a segment are those whose geometries use its arc.
use Rattle.std.proofs.Common.{◌≡◌, ◌≤◌, ℕ, List, [], ◌∷◌, ◌++◌, length, inl, inr, refl, sym, ◌∙◌, subst, arith, ◌↔◌, Some, slice_get}
use Rattle.std.specs.Cmp.{IsTotalOrder}
use Rattle.std.specs.FinMap.{IsAntisymmetric}
use Rattle.std.specs.declared.cmp.Ordering.{Ordering}
use Rattle.theory.proofs.ArcNumbers.{along_used, taken_of, to_from, uses_along}
use Rattle.theory.proofs.ClosedLists.{around_steps, closed_steps}
use Rattle.theory.proofs.ListsOfLists.{Has-joined, Pairwise-flip, get_has, joined_from}
use Rattle.theory.proofs.RefinementLaws.{chain_side}
use Rattle.theory.proofs.Reversing.{beside_same, same_beside}
use Rattle.theory.proofs.Rotations.{rotation_back, rotation_length, rotation_steps}
use Rattle.theory.proofs.SegmentsOnce.{segments_once}
use Rattle.theory.proofs.Stitching.{beside_stitched, stitched_beside}
use Rattle.theory.specs.ArcNumbers.{ArcRef, StitchFrom, StitchTo, Uses}
use Rattle.theory.specs.Arcs.{AreArcsOf}
use Rattle.theory.specs.Geometry.{Geometry, IsRingOf, IsSound, JunctionOf, SegmentOf}
use Rattle.theory.specs.LinesAndRings.{IsRotation, around, closed}
use Rattle.theory.specs.Lists.{Beside, Has, Pairwise, Steps}
use Rattle.theory.specs.Topology.{Body, Form, IsFormOf, IsRingList, Shape, line, lines, lines_in, null, point, points, polygon, polygons, rings_in}
use Rattle.theory.specs.Users.{HasSegment, ShareArc, ShareSegment, UsesArc}

-- a member of a list has its partner in the other
pub partner : {A B : Type 0} (R : A → B → Type 0) (xs : List A) (ys : List B) → Pairwise R xs ys → (x : A) → Has x xs → (y : B) × Has y ys × R x y
partner R [] ys p x h = absurd h
partner R (z ∷ xs) [] p x h = absurd p
partner R (z ∷ xs) (y ∷ ys) p x (inl e) = (y, inl refl, subst (λ w. R w y) (sym e) p.0)
partner R (z ∷ xs) (y ∷ ys) p x (inr h) = let t = partner R xs ys p.1 x h in (t.0, inr t.1, t.2)

pub partner_back : {A B : Type 0} (R : A → B → Type 0) (xs : List A) (ys : List B) → Pairwise R xs ys → (y : B) → Has y ys → (x : A) × Has x xs × R x y
partner_back R xs ys p = partner (λ y x. R x y) ys xs (Pairwise-flip R (λ y x. R x y) (λ x y h. h) xs ys p)

-- a form against another one is so the other way round
form_back : {V L R L' R' : Type 0} (A : L → L' → Type 0) (B : R → R' → Type 0) (f : Form V L R) (h : Form V L' R') → IsFormOf A B f h →
    IsFormOf (λ k l. A l k) (λ k r. B r k) h f
form_back A B null null p = p
form_back A B (point x) (point y) p = sym p
form_back A B (points xs) (points ys) p = sym p
form_back A B (line l) (line k) p = p
form_back A B (lines ls) (lines ks) p = Pairwise-flip A (λ k l. A l k) (λ l k a. a) ls ks p
form_back A B (polygon rs) (polygon ks) p = Pairwise-flip B (λ k r. B r k) (λ r k b. b) rs ks p
form_back A B (polygons ps) (polygons ks) p =
    Pairwise-flip (Pairwise B) (Pairwise (λ k r. B r k)) (Pairwise-flip B (λ k r. B r k) (λ r k b. b)) ps ks p
form_back A B f h p = search

-- the same for the lines and for the rings of a form
pub line_partner : {V L R L' R' : Type 0} (A : L → L' → Type 0) (B : R → R' → Type 0) (f : Form V L R) (h : Form V L' R') → IsFormOf A B f h →
    (l : L) → Has l (lines_in f) → (k : L') × Has k (lines_in h) × A l k
line_partner A B (line m) (line k) p l (inl e) = (k, inl refl, subst (λ w. A w k) (sym e) p)
line_partner A B (line m) (line k) p l (inr z) = absurd z
line_partner A B (lines ls) (lines ks) p l i = partner A ls ks p l i
line_partner A B f h p l i = search

pub line_partner_back : {V L R L' R' : Type 0} (A : L → L' → Type 0) (B : R → R' → Type 0) (h : Form V L' R') (f : Form V L R) → IsFormOf A B f h →
    (k : L') → Has k (lines_in h) → (l : L) × Has l (lines_in f) × A l k
line_partner_back A B h f p = line_partner (λ k l. A l k) (λ k r. B r k) h f (form_back A B f h p)

pub ring_partner : {V L R L' R' : Type 0} (A : L → L' → Type 0) (B : R → R' → Type 0) (f : Form V L R) (h : Form V L' R') → IsFormOf A B f h →
    (r : R) → Has r (rings_in f) → (k : R') × Has k (rings_in h) × B r k
ring_partner A B (polygon rs) (polygon ks) p r i = partner B rs ks p r i
ring_partner A B (polygons ps) (polygons ks) p r i =
    let t = joined_from ps r i in
    let u = partner (Pairwise B) ps ks p t.0 t.1 in
    let v = partner B t.0 u.0 u.2 r t.2 in
    (v.0, Has-joined ks u.0 v.0 u.1 v.1, v.2)
ring_partner A B f h p r i = search

pub ring_partner_back : {V L R L' R' : Type 0} (A : L → L' → Type 0) (B : R → R' → Type 0) (h : Form V L' R') (f : Form V L R) → IsFormOf A B f h →
    (k : R') → Has k (rings_in h) → (r : R) × Has r (rings_in f) × B r k
ring_partner_back A B h f p = ring_partner (λ k l. A l k) (λ k r. B r k) h f (form_back A B f h p)

module _ {V : Type 0} (cmp : V → V → Ordering) (o : IsTotalOrder cmp) (same : IsAntisymmetric cmp) (dec : (a b : V) → Dec (a ≡ b))
    (g : Geometry V) (sound : IsSound g) (arcs : List (List V)) (all : AreArcsOf cmp g arcs) where
  -- a list that used arcs stitch to has the segments of the arcs that are used
  pub list_uses : (used : List ArcRef) (x : V) (r : List V) → StitchFrom arcs x used r → (k : ℕ) (c : List V) (u v : V) →
      slice_get arcs k ≡ Some c → Beside u v c → Beside u v (x ∷ r) ↔ Uses k used
  list_uses used x r st k c u v e b = (
    (λ h.
        let t = taken_of arcs x used r st in
        let p = stitched_beside u v x t.0 r t.2 h in
        let w = along_used arcs used t.0 t.1 p.0 p.1 in
        let d : Beside u v w.2 = same_beside u v p.0 w.2 w.4 p.2 in
        subst (λ n. Uses n used) (sym ((segments_once cmp o same dec g sound arcs all).one_arc u v k w.0 c w.2 e w.3 b d)) w.1),
    (λ h.
        let t = taken_of arcs x used r st in
        let w = uses_along arcs used t.0 t.1 k h in
        let cw : Some c ≡ Some w.2 = sym e ∙ w.3 in
        let ce : c ≡ w.2 = cc in
        beside_stitched u v x t.0 r t.2 w.0 w.1
        (beside_same u v w.0 w.2 w.4 (subst (λ q. Beside u v q) ce b))),
  )

  pub line_uses : (l : List V) (used : List ArcRef) → StitchTo arcs used l → (k : ℕ) (c : List V) (u v : V) →
      slice_get arcs k ≡ Some c → Beside u v c → Beside u v l ↔ Uses k used
  line_uses [] [] st k c u v e b = ((λ h. elim h [ inl z ↦ z | inr z ↦ z ]), λ h. absurd h)
  line_uses [] (a ∷ used) st k c u v e b = absurd st
  line_uses (x ∷ r) used st k c u v e b = list_uses used x r (to_from arcs used x r st) k c u v e b

  -- round a ring, and along it from its seam
  turned_beside : (r : List V) → IsRingOf g r → (x : V) (l : List V) → IsRotation r (x ∷ l) → (u v : V) →
      (Beside u v (around r) → Beside u v (closed (x ∷ l))) × (Beside u v (closed (x ∷ l)) → Beside u v (around r))
  turned_beside [] i x l ro u v = let n : 3 ≤ 0 = (sound.rings [] i).long in absurd (omega arith)
  turned_beside (p ∷ q) i x l ro u v =
      let n : 3 ≤ length (p ∷ q) = (sound.rings (p ∷ q) i).long in
      let m : length (p ∷ q) ≡ length (x ∷ l) = rotation_length (p ∷ q) (x ∷ l) ro in
      let nq : 1 ≤ length q = omega (arith, n) in
      let nl : 1 ≤ length l = omega (arith, n, m) in
      let back = rotation_back (p ∷ q) (x ∷ l) ro in
      let to = λ (a b : V) (h : Steps a b (around (p ∷ q))). rotation_steps p q x l nq ro a b (around_steps a b (p ∷ q) h) in
      let from = λ (a b : V) (h : Steps a b (closed (x ∷ l))). closed_steps a b p q nq (rotation_steps x l p q nl back a b h) in (
        (λ h. elim h [ inl s ↦ inl (to u v s) | inr s ↦ inr (to v u s) ]),
        (λ h. elim h [ inl s ↦ inl (from u v s) | inr s ↦ inr (from v u s) ]),
      )

  pub ring_uses : (r : List V) → IsRingOf g r → (used : List ArcRef) → IsRingList cmp (JunctionOf g) arcs r used → (k : ℕ) (c : List V) (u v : V) →
      slice_get arcs k ≡ Some c → Beside u v c → Beside u v (around r) ↔ Uses k used
  ring_uses r i used h k c u v e b =
      let t = turned_beside r i h.0 h.1 h.2.rotation u v in
      let s = line_uses (closed (h.0 ∷ h.1)) used h.3 k c u v e b in
      ((λ q. s.0 (t.0 q)), (λ q. t.1 (s.1 q)))

  -- of a shape and its body
  module _ (f : Shape V) (h : Body V) (form : IsFormOf (λ l used. StitchTo arcs used l) (IsRingList cmp (JunctionOf g) arcs) f h)
      (rings : (r : List V) → Has r (rings_in f) → IsRingOf g r) where
    pub users : (k : ℕ) (c : List V) (u v : V) → slice_get arcs k ≡ Some c → Beside u v c → HasSegment u v f ↔ UsesArc k h
    users k c u v e b = (to, from)
      where
        to : HasSegment u v f → UsesArc k h
        to (inl (l, i, s)) =
            let t = line_partner (λ l used. StitchTo arcs used l) (IsRingList cmp (JunctionOf g) arcs) f h form l i in
            inl (t.0, t.1, (line_uses l t.0 t.2 k c u v e b).0 s)
        to (inr (r, i, s)) =
            let t = ring_partner (λ l used. StitchTo arcs used l) (IsRingList cmp (JunctionOf g) arcs) f h form r i in
            inr (t.0, t.1, (ring_uses r (rings r i) t.0 t.2 k c u v e b).0 s)

        from : UsesArc k h → HasSegment u v f
        from (inl (us, i, s)) =
            let t = line_partner_back (λ l used. StitchTo arcs used l) (IsRingList cmp (JunctionOf g) arcs) h f form us i in
            inl (t.0, t.1, (line_uses t.0 us t.2 k c u v e b).1 s)
        from (inr (us, i, s)) =
            let t = ring_partner_back (λ l used. StitchTo arcs used l) (IsRingList cmp (JunctionOf g) arcs) h f form us i in
            inr (t.0, t.1, (ring_uses t.0 (rings t.0 t.1) us t.2 k c u v e b).1 s)

    -- an arc that is used is one of the table, and a segment of the shape is on one
    pub used_there : (k : ℕ) → UsesArc k h → (c : List V) × (slice_get arcs k ≡ Some c)
    used_there k (inl (us, i, s)) =
        let t = line_partner_back (λ l used. StitchTo arcs used l) (IsRingList cmp (JunctionOf g) arcs) h f form us i in there t.0 us t.2 s
      where
        there : (l : List V) (us : List ArcRef) → StitchTo arcs us l → Uses k us → (c : List V) × (slice_get arcs k ≡ Some c)
        there [] [] st s = absurd s
        there [] (a ∷ us) st s = absurd st
        there (x ∷ r) us st s =
            let t = taken_of arcs x us r (to_from arcs us x r st) in
            let w = uses_along arcs us t.0 t.1 k s in (w.2, w.3)
    used_there k (inr (us, i, s)) =
        let t = ring_partner_back (λ l used. StitchTo arcs used l) (IsRingList cmp (JunctionOf g) arcs) h f form us i in
        let q = taken_of arcs t.2.0 us (t.2.1 ++ (t.2.0 ∷ [])) (to_from arcs us t.2.0 (t.2.1 ++ (t.2.0 ∷ [])) t.2.3) in
        let w = uses_along arcs us q.0 q.1 k s in (w.2, w.3)

  -- two shapes share a segment exactly where their bodies share an arc
  pub share : (f f' : Shape V) (h h' : Body V) →
      IsFormOf (λ l used. StitchTo arcs used l) (IsRingList cmp (JunctionOf g) arcs) f h →
      IsFormOf (λ l used. StitchTo arcs used l) (IsRingList cmp (JunctionOf g) arcs) f' h' →
      ((r : List V) → Has r (rings_in f) → IsRingOf g r) → ((r : List V) → Has r (rings_in f') → IsRingOf g r) →
      ((u v : V) → HasSegment u v f → SegmentOf g u v) →
      ShareSegment f f' ↔ ShareArc h h'
  share f f' h h' form form' rings rings' own = (
    (λ s.
        let t = (segments_once cmp o same dec g sound arcs all).in_an_arc s.0 s.1 (own s.0 s.1 s.2) in
        (t.0, (users f h form rings t.0 t.1 s.0 s.1 t.2 t.3).0 s.2, (users f' h' form' rings' t.0 t.1 s.0 s.1 t.2 t.3).0 s.3)),
    (λ s.
        let c = used_there f h form rings s.0 s.1 in
        let d = chain_side cmp o same dec g sound arcs all c.0 (all.arcs_only c.0 (get_has arcs s.0 c.0 c.1)).chain in
        (d.0, d.1, (users f h form rings s.0 c.0 d.0 d.1 c.1 d.2).1 s.1, (users f' h' form' rings' s.0 c.0 d.0 d.1 c.1 d.2).1 s.2)),
  )
