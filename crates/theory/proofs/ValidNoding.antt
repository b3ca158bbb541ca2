-- Arcs of which no vertex inside one stands at another place have no junction inside one.
use Rattle.std.proofs.Common.{◌≡◌, ◌≤◌, List, [], ◌∷◌, ◌++◌, inl, inr, refl, sym, ap, ◌∙◌, subst, append_assoc, arith, Some, slice_get}
use Rattle.std.specs.Cmp.{IsTotalOrder}
use Rattle.std.specs.FinMap.{IsAntisymmetric}
use Rattle.std.specs.declared.cmp.Ordering.{Ordering}
use Rattle.theory.proofs.Ascending.{at_most_less, at_most_same, less_at_most}
use Rattle.theory.proofs.Chains.{saturated}
use Rattle.theory.proofs.ClosedLists.{Distinct-rotate, closed_same}
use Rattle.theory.proofs.Lists.{Has-append, Has-append_left, Has-append_right, Has-swap, Passes-after, Passes-before, Steps-right, front-snoc}
use Rattle.theory.proofs.ListsOfLists.{Has-gathered, gathered_from, has_get}
use Rattle.theory.proofs.Pieces.{SegmentOf-flip, two_segments_of}
use Rattle.theory.proofs.SegmentsOnce.{segments_once}
use Rattle.theory.proofs.ValidArcs.{are_arcs, sound}
use Rattle.theory.proofs.ValidLists.{Distinct-append_left, Distinct-front}
use Rattle.theory.specs.Arcs.{AreArcsOf}
use Rattle.theory.specs.Geometry.{AtMost, Geometry, IsChainOf, IsLineOf, IsRingOf, IsSound, JunctionOf, SegmentOf}
use Rattle.theory.specs.Junction.{SameVisit, end, pair}
use Rattle.theory.specs.LinesAndRings.{around, closed}
use Rattle.theory.specs.Lists.{Beside, Between, Distinct, EndOf, Has, Passes, Steps, front_of, gathered}
use Rattle.theory.specs.Validity.{ArcsAreNoded, AreValidArcs, inner_of, insides}

Distinct-right : {V : Type 0} (s t : List V) → Distinct (s ++ t) → Distinct t
Distinct-right [] t d = d
Distinct-right (x ∷ s) t d = Distinct-right s t d.1

Distinct-apart : {V : Type 0} (s t : List V) → Distinct (s ++ t) → (v : V) → Has v s → ¬ Has v t
Distinct-apart [] t d v h k = h
Distinct-apart (x ∷ s) t d v (inl e) k = d.0 (subst (λ w. Has w (s ++ t)) e (Has-append_right v s t k))
Distinct-apart (x ∷ s) t d v (inr h) k = Distinct-apart s t d.1 v h k

-- of lists that have no member in common, nor one twice
part_distinct : {A B : Type 0} (f : A → List B) (ls : List A) → Distinct (gathered f ls) → (l : A) → Has l ls → Distinct (f l)
part_distinct f [] d l h = absurd h
part_distinct f (k ∷ ls) d l (inl e) = subst (λ w. Distinct (f w)) (sym e) (Distinct-append_left (f k) (gathered f ls) d)
part_distinct f (k ∷ ls) d l (inr h) = part_distinct f ls (Distinct-right (f k) (gathered f ls) d) l h

part_one : {A B : Type 0} (f : A → List B) (ls : List A) → Distinct (gathered f ls) → (l m : A) → Has l ls → Has m ls → (v : B) → Has v (f l) → Has v (f m) → l ≡ m
part_one f [] d l m h k v i j = absurd h
part_one f (x ∷ ls) d l m (inl e) (inl e') v i j = e ∙ sym e'
part_one f (x ∷ ls) d l m (inl e) (inr k) v i j =
    absurd (Distinct-apart (f x) (gathered f ls) d v (subst (λ w. Has v (f w)) e i) (Has-gathered f ls m v k j))
part_one f (x ∷ ls) d l m (inr h) (inl e) v i j =
    absurd (Distinct-apart (f x) (gathered f ls) d v (subst (λ w. Has v (f w)) e j) (Has-gathered f ls l v h i))
part_one f (x ∷ ls) d l m (inr h) (inr k) v i j = part_one f ls (Distinct-right (f x) (gathered f ls) d) l m h k v i j

-- what is passed stands inside
passes_inner : {V : Type 0} (u v w : V) (l : List V) → Passes u v w l → Has v (inner_of l)
passes_inner u v w [] h = h
passes_inner u v w (x ∷ []) (inl h) = h.1
passes_inner u v w (x ∷ []) (inr h) = h
passes_inner u v w (x ∷ (y ∷ [])) (inl h) = h.1.1
passes_inner u v w (x ∷ (y ∷ [])) (inr (inl h)) = h.1
passes_inner u v w (x ∷ (y ∷ [])) (inr (inr h)) = h
passes_inner u v w (x ∷ (y ∷ (z ∷ r))) (inl h) = inl h.1.0
passes_inner u v w (x ∷ (y ∷ (z ∷ r))) (inr h) = inr (passes_inner u v w (y ∷ (z ∷ r)) h)

-- and is passed one way, where it stands inside once
passes_once : {V : Type 0} (a v b c d : V) (l : List V) → Distinct (inner_of l) → Passes a v b l → Passes c v d l → (a ≡ c) × (b ≡ d)
passes_once a v b c d [] n h k = absurd h
passes_once a v b c d (x ∷ []) n (inl h) k = absurd h.1
passes_once a v b c d (x ∷ []) n (inr h) k = absurd h
passes_once a v b c d (x ∷ (y ∷ [])) n (inl h) k = absurd h.1.1
passes_once a v b c d (x ∷ (y ∷ [])) n (inr (inl h)) k = absurd h.1
passes_once a v b c d (x ∷ (y ∷ [])) n (inr (inr h)) k = absurd h
passes_once a v b c d (x ∷ (y ∷ (z ∷ r))) n (inl h) (inl k) = (h.0 ∙ sym k.0, h.1.1 ∙ sym k.1.1)
passes_once a v b c d (x ∷ (y ∷ (z ∷ r))) n (inl h) (inr k) = absurd (n.0 (subst (λ w. Has w (front_of z r)) h.1.0 (passes_inner c v d (y ∷ (z ∷ r)) k)))
passes_once a v b c d (x ∷ (y ∷ (z ∷ r))) n (inr h) (inl k) = absurd (n.0 (subst (λ w. Has w (front_of z r)) k.1.0 (passes_inner a v b (y ∷ (z ∷ r)) h)))
passes_once a v b c d (x ∷ (y ∷ (z ∷ r))) n (inr h) (inr k) = passes_once a v b c d (y ∷ (z ∷ r)) n.1 h k

between_inner : {V : Type 0} (u v w : V) (l : List V) → Between u v w l → Has v (inner_of l)
between_inner u v w l (inl h) = passes_inner u v w l h
between_inner u v w l (inr h) = passes_inner w v u l h

between_once : {V : Type 0} (a v b c d : V) (l : List V) → Distinct (inner_of l) → Between a v b l → Between c v d l → SameVisit (pair a b) (pair c d)
between_once a v b c d l n (inl h) (inl k) = inl (passes_once a v b c d l n h k)
between_once a v b c d l n (inl h) (inr k) = inr (passes_once a v b d c l n h k)
between_once a v b c d l n (inr h) (inl k) = let t = passes_once b v a c d l n h k in inr (t.1, t.0)
between_once a v b c d l n (inr h) (inr k) = let t = passes_once b v a d c l n h k in inl (t.1, t.0)

-- round a ring each vertex is inside
inner_around : {V : Type 0} (x y : V) (q : List V) → inner_of (around (x ∷ (y ∷ q))) ≡ (y ∷ q) ++ (x ∷ [])
inner_around x y q = ap (λ w. front_of y w) (sym (append_assoc q (x ∷ []) (y ∷ []))) ∙ front-snoc y y (q ++ (x ∷ []))

ring_inner : {V : Type 0} (v : V) (r : List V) → Has v (inner_of (around r)) → Has v r
ring_inner v [] h = h
ring_inner v (x ∷ []) h = absurd h
ring_inner v (x ∷ (y ∷ q)) h = Has-swap v (x ∷ []) (y ∷ q) (subst (λ w. Has v w) (inner_around x y q) h)

ring_distinct : {V : Type 0} (r : List V) → Distinct r → Distinct (inner_of (around r))
ring_distinct [] d = d
ring_distinct (x ∷ []) d = tt
ring_distinct (x ∷ (y ∷ q)) d = subst Distinct (sym (inner_around x y q)) (Distinct-rotate (x ∷ []) (y ∷ q) d)

module _ {V : Type 0} (cmp : V → V → Ordering) (o : IsTotalOrder cmp) (same : IsAntisymmetric cmp)
    (arcs : List (List V)) (a : Geometry V) (st : ArcsAreNoded cmp arcs a) where
  abbrev on_lines : List V
  on_lines = gathered inner_of a.lines

  abbrev on_rings : List V
  on_rings = gathered (λ r. r) a.rings

  in_line : (l : List V) → IsLineOf a l → (v : V) → Has v (inner_of l) → Has v on_lines
  in_line l h v i = Has-gathered inner_of a.lines l v h i

  in_ring : (r : List V) → IsRingOf a r → (v : V) → Has v r → Has v on_rings
  in_ring r h v i = Has-gathered (λ r. r) a.rings r v h i

  lines_once : Distinct on_lines
  lines_once = Distinct-append_left on_lines on_rings st.once

  rings_once : Distinct on_rings
  rings_once = Distinct-right on_lines on_rings st.once

  no_junction : (v : V) → Has v (insides a) → ¬ JunctionOf a v
  no_junction v i (inl (l, h, e)) = st.no_end l h v e i
  no_junction v i (inr (end, q, (l, h, e), vq, n)) = st.no_end l h v e i
  no_junction v i (inr (pair b c, end, vp, (l, h, e), n)) = st.no_end l h v e i
  no_junction v i (inr (pair b c, pair b' c', inl (l, h, p), inl (m, k, q), n)) =
      let e : m ≡ l = part_one inner_of a.lines lines_once m l k h v (between_inner b' v c' m q) (between_inner b v c l p) in
      n (between_once b v c b' c' l (part_distinct inner_of a.lines lines_once l h) p (subst (λ w. Between b' v c' w) e q))
  no_junction v i (inr (pair b c, pair b' c', inl (l, h, p), inr (r, k, q), n)) =
      Distinct-apart on_lines on_rings st.once v (in_line l h v (between_inner b v c l p)) (in_ring r k v (ring_inner v r (between_inner b' v c' (around r) q)))
  no_junction v i (inr (pair b c, pair b' c', inr (r, k, q), inl (l, h, p), n)) =
      Distinct-apart on_lines on_rings st.once v (in_line l h v (between_inner b' v c' l p)) (in_ring r k v (ring_inner v r (between_inner b v c (around r) q)))
  no_junction v i (inr (pair b c, pair b' c', inr (r, h, p), inr (s, k, q), n)) =
      let e : s ≡ r = part_one (λ r. r) a.rings rings_once s r k h v (ring_inner v s (between_inner b' v c' (around s) q)) (ring_inner v r (between_inner b v c (around r) p)) in
      n (between_once b v c b' c' (around r) (ring_distinct r (part_distinct (λ r. r) a.rings rings_once r h)) p (subst (λ w. Between b' v c' (around w)) e q))

  -- so they stand
  pub apart_hold : AreValidArcs cmp arcs a
  apart_hold = record {
    parted = st.parted;
    sorted = st.sorted;
    forward = st.forward;
    inner_free = λ l h u v w p. no_junction v (Has-append_left v on_lines on_rings (in_line l h v (passes_inner u v w l p)));
    free = λ r h v i. no_junction v (Has-append_right v on_lines on_rings (in_ring r h v i));
    first = λ x l h v i. elim (at_most_less cmp o same x v (st.first x l h v i)) [
      | inl e ↦ e
      | inr e ↦ absurd ((part_distinct (λ r. r) a.rings rings_once (x ∷ l) h).0 (subst (λ w. Has w l) (sym e) i))
    ];
  }

Distinct-join : {V : Type 0} (s t : List V) → Distinct s → Distinct t → ((v : V) → Has v s → ¬ Has v t) → Distinct (s ++ t)
Distinct-join [] t d e n = e
Distinct-join (x ∷ s) t d e n = (
  (λ h. elim (Has-append x s t h) [ inl i ↦ d.0 i | inr i ↦ n x (inl refl) i ]),
  Distinct-join s t d.1 e (λ v h. n v (inr h)),
)

gathered_distinct : {A B : Type 0} (f : A → List B) (ls : List A) → Distinct ls → ((l : A) → Has l ls → Distinct (f l)) →
    ((l m : A) → Has l ls → Has m ls → (v : B) → Has v (f l) → Has v (f m) → l ≡ m) → Distinct (gathered f ls)
gathered_distinct f [] d e n = tt
gathered_distinct f (x ∷ ls) d e n =
    Distinct-join (f x) (gathered f ls) (e x (inl refl)) (gathered_distinct f ls d.1 (λ l h. e l (inr h)) (λ l m h k. n l m (inr h) (inr k)))
    (λ v h k. let t = gathered_from f ls v k in d.0 (subst (λ w. Has w ls) (sym (n x t.0 (inl refl) (inr t.1) v h t.2)) t.1))

-- what stands inside is passed
inner_passes : {V : Type 0} (v : V) (l : List V) → Has v (inner_of l) → (a : V) × (b : V) × Passes a v b l
inner_passes v [] h = absurd h
inner_passes v (x ∷ []) h = absurd h
inner_passes v (x ∷ (y ∷ [])) h = absurd h
inner_passes v (x ∷ (y ∷ (z ∷ r))) (inl e) = (x, z, inl (refl, (e, refl)))
inner_passes v (x ∷ (y ∷ (z ∷ r))) (inr h) = let t = inner_passes v (y ∷ (z ∷ r)) h in (t.0, t.1, inr t.2)

inner_has : {V : Type 0} (v : V) (l : List V) → Has v (inner_of l) → Has v l
inner_has v l h = let t = inner_passes v l h in Steps-right t.0 v l (Passes-before t.0 v t.1 l t.2)

-- a step from each vertex of a ring
ring_step : {V : Type 0} (v z : V) (l : List V) → Has v l → (b : V) × Steps v b (l ++ (z ∷ []))
ring_step v z [] h = absurd h
ring_step v z (x ∷ []) (inl e) = (z, inl (e, refl))
ring_step v z (x ∷ (y ∷ l)) (inl e) = (y, inl (e, refl))
ring_step v z (x ∷ l) (inr h) = let t = ring_step v z l h in (t.0, inr t.1)

module _ {V : Type 0} (cmp : V → V → Ordering) (o : IsTotalOrder cmp) (same : IsAntisymmetric cmp) (dec : (a b : V) → Dec (a ≡ b))
    (arcs : List (List V)) (a : Geometry V) (st : AreValidArcs cmp arcs a) where
  sa : IsSound a
  sa = sound cmp o same dec arcs a st

  all : AreArcsOf cmp a arcs
  all = are_arcs cmp o same dec arcs a st

  -- two arcs on a vertex that is no junction are one
  one_arc_at : (c d : List V) → Has c arcs → Has d arcs → (v b : V) → ¬ JunctionOf a v → Steps v b c → Has v d → c ≡ d
  one_arc_at c d h k v b nj s i =
      let e = has_get arcs c h in
      let f = has_get arcs d k in
      let n : e.0 ≡ f.0 = (segments_once cmp o same dec a sa arcs all).one_arc v b e.0 f.0 c d e.1 f.1 (inl s)
      (there d (all.arcs_only d k).chain i ((segments_once cmp o same dec a sa arcs all).no_other v b c h (inl s))) in
      let m : Some c ≡ Some d = sym e.1 ∙ ap (λ w. slice_get arcs w) n ∙ f.1 in
      let q : c ≡ d = cc in q
    where
      there : (d : List V) → IsChainOf cmp a d → Has v d → SegmentOf a v b → Beside v b d
      there [] q i s = absurd q
      there (x ∷ r) q i s =
          saturated (SegmentOf a) (JunctionOf a) (AtMost cmp) (SegmentOf-flip a sa dec) (two_segments_of a sa dec) (at_most_same cmp o same) x r q v b i nj s

  line_step : (l : List V) → IsLineOf a l → (v : V) → Has v (inner_of l) → (¬ JunctionOf a v) × ((b : V) × Steps v b l)
  line_step l h v i =
      let t = inner_passes v l i in
      (st.inner_free l h t.0 v t.1 t.2, (t.1, Passes-after t.0 v t.1 l t.2))

  closed_step : (r : List V) → IsRingOf a r → (v : V) → Has v r → (¬ JunctionOf a v) × ((b : V) × Steps v b (closed r))
  closed_step [] h v i = absurd i
  closed_step (x ∷ l) h v i = (st.free (x ∷ l) h v i, ring_step v x (x ∷ l) i)

  closed_has : (v : V) (r : List V) → Has v r → Has v (closed r)
  closed_has v [] h = h
  closed_has v (x ∷ l) h = Has-append_left v (x ∷ l) (x ∷ []) h

  -- a line is no free arc
  no_loop : (l r : List V) → IsLineOf a l → IsRingOf a r → ¬ (l ≡ closed r)
  no_loop l [] h k e =
      let n : 3 ≤ 0 = (sa.rings [] k).long in absurd (omega arith)
  no_loop l (x ∷ q) h k e = st.free (x ∷ q) k x (inl refl) (inl (l, h, subst (λ w. EndOf x w) (sym e) (inl refl)))

  -- arcs that stand, each a line or a ring once, are apart
  pub hold_apart : Distinct a.lines → Distinct a.rings → ArcsAreNoded cmp arcs a
  hold_apart dl dr = record {
    parted = st.parted;
    sorted = st.sorted;
    forward = st.forward;
    once = Distinct-join (gathered inner_of a.lines) (gathered (λ r. r) a.rings)
        (gathered_distinct inner_of a.lines dl (λ l h. inner_distinct l (all.arcs_only l (st.parted.lines l h)).chain)
        (λ l m h k v i j.
        let t = line_step l h v i in
        one_arc_at l m (st.parted.lines l h) (st.parted.lines m k) v t.1.0 t.0 t.1.1 (inner_has v m j)))
        (gathered_distinct (λ r. r) a.rings dr (λ r h. loop_distinct r (all.arcs_only (closed r) (st.parted.rings r h)).chain)
        (λ r s h k v i j.
        let t = closed_step r h v i in
        closed_same r s (one_arc_at (closed r) (closed s) (st.parted.rings r h) (st.parted.rings s k) v t.1.0 t.0 t.1.1 (closed_has v s j))))
        (λ v h k.
        let p = gathered_from inner_of a.lines v h in
        let q = gathered_from (λ r. r) a.rings v k in
        let t = line_step p.0 p.1 v p.2 in
        no_loop p.0 q.0 p.1 q.1 (one_arc_at p.0 (closed q.0) (st.parted.lines p.0 p.1) (st.parted.rings q.0 q.1) v t.1.0 t.0 t.1.1 (closed_has v q.0 q.2)));
    no_end = λ l h v e i. elim (Has-append v (gathered inner_of a.lines) (gathered (λ r. r) a.rings) i) [
      | inl k ↦ (let p = gathered_from inner_of a.lines v k in (line_step p.0 p.1 v p.2).0 (inl (l, h, e)))
      | inr k ↦ (let q = gathered_from (λ r. r) a.rings v k in st.free q.0 q.1 v q.2 (inl (l, h, e)))
    ];
    first = λ x l h v i. less_at_most cmp o same x v (st.first x l h v i);
  }
    where
      inner_distinct : (l : List V) → IsChainOf cmp a l → Distinct (inner_of l)
      inner_distinct [] k = tt
      inner_distinct (x ∷ []) k = tt
      inner_distinct (x ∷ (y ∷ r)) k = Distinct-front y r k.rest_simple

      loop_distinct : (r : List V) → IsChainOf cmp a (closed r) → Distinct r
      loop_distinct [] k = tt
      loop_distinct (x ∷ l) k = subst Distinct (front-snoc x x l) k.front_simple
