-- The sides of a vertex's segments, and which vertices are stops.
use Rattle.std.proofs.Common.{◌≡◌, ℕ, Bool, true, false, cond, ◌||◌, rules, List, [], ◌∷◌, ◌++◌, take, drop, ◌⊎◌, inl, inr, refl, sym, ap, ◌∙◌, subst, Result, Ok, Err, IfOk}
use Rattle.std.proofs.lemmas.List.{append_assoc, append-nil, take-append-drop}
use Rattle.std.proofs.lemmas.List.Sorted.{IsPermutation-sym}
use Rattle.std.specs.List.Sorted.{IsPermutation, IsSorted}
use Rattle.std.specs.Ordering.{is_eq}
use Rattle.std.specs.Global.{Vec}
use Rattle.theory.specs.Geometry.{Geometry, IsSound}
use Rattle.theory.specs.Lists.{Has}
use Rattle.theory.specs.Segments.{OnTwo, TwoSegments}
use Rattle.theory.proofs.Lists.{Has-append, Has-append_left, Has-append_right}
use Rattle.lines.specs.ByVertex.{AreByVertex, count_at}
use Rattle.lines.specs.Turned.{position_cmp}
use Rattle.grid.specs.declared.pos.Pos.{Pos}
use Rattle.lines.specs.Pairs.{position_eq}
use Rattle.arcs.specs.Among.{among}
use Rattle.arcs.specs.Arcs.{Arcs}
use Rattle.chains.specs.Joined.{StopAt}
use Rattle.arcs.specs.Table.{IsTableOf}
use Rattle.lines.proofs.Positions.{position_apart, position_decide, position_true, tied_position, true_false, true_position}
use Rattle.lines.proofs.ByVertex.{behind_at, here_at, sorted_hold, are_behind}
use Rattle.lines.proofs.SortedLists.{Has-permutation}
use Rattle.arcs.specs.declared.step.ArcStep.{ArcStep}
use Rattle.query.specs.declared.stops.Sides.{Sides}
use Rattle.query.specs.declared.stops.Sides.TheVariants.{One, Two, More}
use Rattle.arcs.specs.Steps.{step}
use Rattle.query.specs.Stops.{AreHalts, AreJudged, IsJudged, Means, OnOne, OnThreeOf, halts, sided, sided_all, sides_at, stop_step}
use Rattle.chains.specs.Along.{OnArcs}
use Rattle.query.specs.Ends.{AmongEnds, HasEnds, by_vertex, vertex_of}
use Rattle.query.proofs.NetworkMaps.{three_in_two}
use Rattle.query.proofs.Vertices.{end_side, end_sides, end_or_two}

Means-iff : (s : Sides) (H G : Pos → Type 0) → ((p : Pos) → H p → G p) → ((p : Pos) → G p → H p) → Means s H → Means s G
Means-iff (One a) H G f g h = (f a h.0, λ p k. h.1 p (g p k))
Means-iff (Two a b) H G f g h = (h.0, f a h.1, f b h.2, λ p k. h.3 p (g p k))
Means-iff More H G f g h = (h.0, h.1, h.2, f h.0 h.3, f h.1 h.4, f h.2 h.5, h.6, h.7, h.8)

-- some position has H
Means-some : (s : Sides) (H : Pos → Type 0) → Means s H → (p : Pos) × H p
Means-some (One a) H h = (a, h.0)
Means-some (Two a b) H h = (a, h.1)
Means-some More H h = (h.0, h.3)

apart_false : (a n : Pos) → position_eq a n ≡ false → ¬ (a ≡ n)
apart_false a n e k = true_false (position_eq a n) (true_position a n k) e

Means-sided : (s : Sides) (H : Pos → Type 0) (n : Pos) → Means s H → Means (sided s n) (λ p. (p ≡ n) ⊎ H p)
Means-sided (One a) H n h = go (position_eq a n) refl
  where
    go : (b : Bool) → position_eq a n ≡ b → Means (cond b (One a) (Two a n)) (λ p. (p ≡ n) ⊎ H p)
    go true e = (inr h.0, λ p k. elim k [ inl f ↦ f ∙ sym (position_true a n e) | inr f ↦ h.1 p f ])
    go false e = (apart_false a n e, inr h.0, inl refl, λ p k. elim k [ inl f ↦ inr f | inr f ↦ inl (h.1 p f) ])
Means-sided (Two a b) H n h = go (position_eq a n) refl (position_eq b n) refl
  where
    go : (s : Bool) → position_eq a n ≡ s → (t : Bool) → position_eq b n ≡ t → Means (cond s (Two a b) (cond t (Two a b) More)) (λ p. (p ≡ n) ⊎ H p)
    go true e t f = (h.0, inr h.1, inr h.2, λ p k. elim k [ inl g ↦ inl (g ∙ sym (position_true a n e)) | inr g ↦ h.3 p g ])
    go false e true f = (h.0, inr h.1, inr h.2, λ p k. elim k [ inl g ↦ inr (g ∙ sym (position_true b n f)) | inr g ↦ h.3 p g ])
    go false e false f = (a, b, n, inr h.1, inr h.2, inl refl, h.0, apart_false a n e, apart_false b n f)
Means-sided More H n h = (h.0, h.1, h.2, inr h.3, inr h.4, inr h.5, h.6, h.7, h.8)

-- p is beside the vertex of one of the ends
abbrev IsSideOf : Pos → List ArcStep → Type 0
IsSideOf p [] = ⊥
IsSideOf p (e ∷ es) = (p ≡ e.to) ⊎ IsSideOf p es

Means-all : (s : Sides) (H : Pos → Type 0) (es : List ArcStep) → Means s H → Means (sided_all s es) (λ p. IsSideOf p es ⊎ H p)
Means-all s H [] h = Means-iff s H (λ p. ⊥ ⊎ H p) (λ p k. inr k) (λ p k. elim k [ inl z ↦ absurd z | inr f ↦ f ]) h
Means-all s H (e ∷ es) h =
    Means-iff (sided_all (sided s e.to) es) (λ p. IsSideOf p es ⊎ ((p ≡ e.to) ⊎ H p)) (λ p. IsSideOf p (e ∷ es) ⊎ H p)
    (λ p k. elim k [ inl f ↦ inl (inr f) | inr f ↦ elim f [ inl i ↦ inl (inl i) | inr i ↦ inr i ] ])
    (λ p k. elim k [ inl f ↦ elim f [ inl i ↦ inr (inl i) | inr i ↦ inl i ] | inr f ↦ inr (inr f) ])
    (Means-all (sided s e.to) (λ p. (p ≡ e.to) ⊎ H p) es (Means-sided s H e.to h))

side_has : (v w : Pos) (es : List ArcStep) → ((x : ArcStep) → Has x es → x.from ≡ v) → IsSideOf w es → Has (step v w) es
side_has v w [] at h = absurd h
side_has v w (e ∷ es) at (inl k) = let here = at e (inl refl) in inl (λ i. record { from = sym here i; to = k i })
side_has v w (e ∷ es) at (inr h) = inr (side_has v w es (λ x i. at x (inr i)) h)

has_side : (v w : Pos) (es : List ArcStep) → Has (step v w) es → IsSideOf w es
has_side v w [] h = absurd h
has_side v w (e ∷ es) (inl k) = inl (ap (λ z. z.to) k)
has_side v w (e ∷ es) (inr h) = inr (has_side v w es h)

-- what is told of the ends at one vertex
Means-here : (first : ArcStep) (here : List ArcStep) → ((x : ArcStep) → Has x (first ∷ here) → x.from ≡ first.from) →
    Means (sides_at first here) (λ w. Has (step first.from w) (first ∷ here))
Means-here first here at =
    Means-iff (sides_at first here) (λ p. IsSideOf p here ⊎ (p ≡ first.to)) (λ w. Has (step first.from w) (first ∷ here))
    (λ p k. side_has first.from p (first ∷ here) at (elim k [ inl f ↦ inr f | inr f ↦ inl f ]))
    (λ p k. elim (has_side first.from p (first ∷ here) k) [ inl f ↦ inr f | inr f ↦ inl f ])
    (Means-all (One first.to) (λ p. p ≡ first.to) here (refl, λ p k. k))

-- the vertices of the ends before these are judged
pub record Judging (ends left : List ArcStep) (stops : List Pos) : Type 0 where
  pub done : List ArcStep
  pub is : ends ≡ done ++ left
  pub stand : AreByVertex vertex_of left
  pub other : (x y : ArcStep) → Has x done → Has y left → ¬ (x.from ≡ y.from)
  pub judged : AreJudged done stops

pub judging_starts : (ends : List ArcStep) (stops : List Pos) → stops ≡ [] → AreByVertex vertex_of ends → Judging ends ends stops
judging_starts ends stops e g = record {
  done = [];
  is = refl;
  stand = g;
  other = λ x y h. absurd h;
  judged = λ v. inl ((λ w h. h), ap (λ l. among l v) e);
}

pub judging_over : (ends left : List ArcStep) (stops : List Pos) → left ≡ [] → Judging ends left stops → AreJudged ends stops
judging_over ends left stops e p v =
    subst (λ es. IsJudged es v (among stops v)) (sym (p.is ∙ ap (λ w. p.done ++ w) e ∙ append-nil p.done)) (p.judged v)

-- the ends at one vertex: the first of those that are left, and those that follow it there
module _ (ends : List ArcStep) (first : ArcStep) (here behind : List ArcStep) (stops new : List Pos) (p : Judging ends (first ∷ (here ++ behind)) stops)
    (at : (x : ArcStep) → Has x here → x.from ≡ first.from) (past : (x : ArcStep) → Has x behind → ¬ (x.from ≡ first.from))
    (made : (q : Pos) → among new q ≡ stop_step (halts (sides_at first here)) q (among stops q) first.from) where
  at_first : (x : ArcStep) → Has x (first ∷ here) → x.from ≡ first.from
  at_first x (inl e) = ap (λ w. w.from) e
  at_first x (inr h) = at x h

  in_behind : (x : ArcStep) → Has x behind → Has x (first ∷ (here ++ behind))
  in_behind x h = inr (Has-append_right x here behind h)

  abbrev now : List ArcStep
  now = p.done ++ (first ∷ here)

  -- at its vertex no end stood before
  none_before : (v : Pos) → v ≡ first.from → (w : Pos) → ¬ Has (step v w) p.done
  none_before v e w h = p.other (step v w) first h (inl refl) e

  no_stop_yet : (v : Pos) → v ≡ first.from → among stops v ≡ false
  no_stop_yet v e = elim (p.judged v) [
    | inl k ↦ k.1
    | inr k ↦ (let some = Means-some k.0 (λ w. Has (step v w) p.done) k.1 in absurd (none_before v e some.0 some.1))
  ]

  judged_here : (v : Pos) → v ≡ first.from → IsJudged now v (among new v)
  judged_here v e = inr (
    sides_at first here,
    Means-iff (sides_at first here) (λ w. Has (step first.from w) (first ∷ here)) (λ w. Has (step v w) now)
        (λ w h. Has-append_right (step v w) p.done (first ∷ here) (subst (λ u. Has (step u w) (first ∷ here)) (sym e) h))
        (λ w h. elim (Has-append (step v w) p.done (first ∷ here) h) [
          | inl k ↦ absurd (none_before v e w k)
          | inr k ↦ subst (λ u. Has (step u w) (first ∷ here)) e k
        ])
        (Means-here first here at_first),
    go (halts (sides_at first here)) ∙ sym (ap (λ o. stop_step (halts (sides_at first here)) v o first.from) (no_stop_yet v e)) ∙ sym (made v),
  )
    where
      go : (b : Bool) → b ≡ cond b (cond (is_eq (position_cmp first.from v)) true false) false
      go true = sym (ap (λ c. cond c true false) (tied_position first.from v (sym e)))
      go false = refl

  judged_there : (v : Pos) → ¬ (v ≡ first.from) → IsJudged now v (among new v)
  judged_there v n = subst (IsJudged now v) (sym kept) (elim (p.judged v) [
    | inl k ↦ inl ((λ w h. k.0 w (back w h)), k.1)
    | inr k ↦ inr (k.0, Means-iff k.0 (λ w. Has (step v w) p.done) (λ w. Has (step v w) now) (λ w h. Has-append_left (step v w) p.done (first ∷ here) h) back k.1, k.2)
  ])
    where
      back : (w : Pos) → Has (step v w) now → Has (step v w) p.done
      back w h = elim (Has-append (step v w) p.done (first ∷ here) h) [ inl k ↦ k | inr k ↦ absurd (n (at_first (step v w) k)) ]

      go : (b : Bool) → cond b (cond (is_eq (position_cmp first.from v)) true (among stops v)) (among stops v) ≡ among stops v
      go true = ap (λ c. cond c true (among stops v)) (position_apart first.from v n)
      go false = refl

      kept : among new v ≡ among stops v
      kept = made v ∙ go (halts (sides_at first here))

  advance : Judging ends behind new
  advance = record {
    done = now;
    is = p.is ∙ sym (append_assoc p.done (first ∷ here) behind);
    stand = are_behind vertex_of (first ∷ here) behind p.stand;
    other = λ x y h i. elim (Has-append x p.done (first ∷ here) h) [
      | inl j ↦ p.other x y j (in_behind y i)
      | inr j ↦ (λ k. past y i (sym k ∙ at_first x j))
    ];
    judged = λ v. elim (position_decide v first.from) [ inl e ↦ judged_here v e | inr n ↦ judged_there v n ];
  }

-- in the form of the code
pub judging_step : (ends left others : List ArcStep) (first : ArcStep) (n : ℕ) (here behind : List ArcStep) (s : Sides) (stops new : List Pos) → left ≡ first ∷ others → n ≡ count_at vertex_of first.from others →
    here ≡ take n others → behind ≡ drop n others → s ≡ sides_at first here → ((q : Pos) → among new q ≡ stop_step (halts s) q (among stops q) first.from) →
    Judging ends left stops → Judging ends behind new
judging_step ends left others first n here behind s stops new l c h b is made p =
    let split : others ≡ here ++ behind = sym (take-append-drop n others) ∙ (λ i. sym h i ++ sym b i) in
    let stand : AreByVertex vertex_of (first ∷ others) = subst (AreByVertex vertex_of) l p.stand in
    advance ends first here behind stops new (subst (λ w. Judging ends w stops) (l ∙ ap (λ w. first ∷ w) split) p)
    (λ x k. here_at vertex_of first.from others x (subst (Has x) (h ∙ ap (λ m. take m others) c) k))
    (λ x k. behind_at vertex_of first.from others stand.0 stand.1 x (subst (Has x) (b ∙ ap (λ m. drop m others) c) k))
    (λ q. made q ∙ ap (λ t. stop_step (halts t) q (among stops q) first.from) is)

-- no vertex lies on two segments, and on one or three
pub two_only : (S : Pos → Pos → Type 0) (v : Pos) → OnTwo S v → OnOne S v ⊎ OnThreeOf S v → ⊥
two_only S v t (inl o) = t.2 (o.2 t.0 t.3 ∙ sym (o.2 t.1 t.4))
two_only S v t (inr o) = three_in_two S v t o

-- the segments S at a vertex where arcs end are those of the ends, and each other vertex lies on two
module _ (S : Pos → Pos → Type 0) (ends : List ArcStep) (stops : List Pos)
    (on : (v w : Pos) → Has (step v w) ends → S v w) (all : (v p w : Pos) → Has (step v p) ends → S v w → Has (step v w) ends)
    (others : (v w : Pos) → S v w → Has (step v w) ends ⊎ OnTwo S v) (judged : AreJudged ends stops) where
  -- a vertex that is no stop lies on two segments
  stops_meet : TwoSegments S (StopAt stops)
  stops_meet v w free s = elim (others v w s) [
    | inr t ↦ t
    | inl k ↦ elim (judged v) [ inl none ↦ absurd (none.0 w k) | inr meant ↦ go k meant.0 meant.1 (λ h. free (sym meant.2 ∙ h)) ]
  ]
    where
      go : Has (step v w) ends → (t : Sides) → Means t (λ p. Has (step v p) ends) → ¬ (halts t ≡ true) → OnTwo S v
      go k (One a) m n = absurd (n refl)
      go k (Two a b) m n = (a, b, m.0, on v a m.1, on v b m.2, λ c h. m.3 c (all v w c k h))
      go k More m n = absurd (n refl)

  -- a stop lies on one segment, or on three or more
  stops_lie : (v : Pos) → StopAt stops v → OnOne S v ⊎ OnThreeOf S v
  stops_lie v k = elim (judged v) [ inl none ↦ absurd (true_false (among stops v) k none.1) | inr meant ↦ go meant.0 meant.1 (meant.2 ∙ k) ]
    where
      go : (t : Sides) → Means t (λ p. Has (step v p) ends) → halts t ≡ true → OnOne S v ⊎ OnThreeOf S v
      go (One a) m n = inl (a, on v a m.0, λ p h. m.1 p (all v a p m.0 h))
      go (Two a b) m n = absurd cc
      go More m n = inr (m.0, m.1, m.2, on v m.0 m.3, on v m.1 m.4, on v m.2 m.5, m.6, m.7, m.8)

  -- and a vertex that lies so is a stop
  lies_stop : (v : Pos) → OnOne S v ⊎ OnThreeOf S v → StopAt stops v
  lies_stop v h = go (among stops v) refl
    where
      segment : (w : Pos) × S v w
      segment = elim h [ inl o ↦ (o.0, o.1) | inr t ↦ (t.0, t.3) ]

      go : (b : Bool) → among stops v ≡ b → b ≡ true
      go true e = refl
      go false e = absurd (two_only S v (stops_meet v segment.0 (λ k. true_false (among stops v) k e) segment.1) h)

-- whether two positions are equal, by their order
eq_is : (p q : Pos) → is_eq (position_cmp p q) ≡ position_eq p q
eq_is p q = search rules

eq_back : (v q : Pos) → position_eq q v ≡ is_eq (position_cmp v q)
eq_back v q = elim (position_decide v q) [
  | inl e ↦ sym (eq_is q v) ∙ tied_position q v (sym e) ∙ sym (tied_position v q e)
  | inr n ↦ sym (eq_is q v) ∙ position_apart q v n ∙ sym (position_apart v q (λ e. n (sym e)))
]

among_last : (keys : List Pos) (v q : Pos) → among (keys ++ (v ∷ [])) q ≡ cond (is_eq (position_cmp v q)) true (among keys q)
among_last [] v q = ap (λ b. b || false) (eq_back v q) ∙ go (is_eq (position_cmp v q))
  where
    go : (b : Bool) → (b || false) ≡ cond b true false
    go true = refl
    go false = refl
among_last (k ∷ keys) v q = ap (λ b. position_eq q k || b) (among_last keys v q) ∙ go (position_eq q k) (is_eq (position_cmp v q))
  where
    go : (a b : Bool) → (a || cond b true (among keys q)) ≡ cond b true (a || among keys q)
    go true true = refl
    go true false = refl
    go false true = refl
    go false false = refl

-- a vertex is put among the stops
pub stop_put : (keys new : List Pos) (b : Bool) (v q : Pos) → b ≡ true → new ≡ keys ++ (v ∷ []) → among new q ≡ stop_step b q (among keys q) v
stop_put keys new b v q h e =
    ap (λ l. among l q) e ∙ among_last keys v q ∙ sym (ap (λ a. cond a (cond (is_eq (position_cmp v q)) true (among keys q)) (among keys q)) h)

-- it is not put there
pub stop_left : (keys : List Pos) (b : Bool) (v q : Pos) → b ≡ false → among keys q ≡ stop_step b q (among keys q) v
stop_left keys b v q h = sym (ap (λ a. cond a (cond (is_eq (position_cmp v q)) true (among keys q)) (among keys q)) h)

among_has : (v w : Pos) (es : List ArcStep) → AmongEnds v w es → Has (step v w) es
among_has v w [] h = absurd h
among_has v w (e ∷ es) (inl k) = inl (λ i. record { from = k.0 i; to = k.1 i })
among_has v w (e ∷ es) (inr h) = inr (among_has v w es h)

has_among : (v w : Pos) (es : List ArcStep) → Has (step v w) es → AmongEnds v w es
has_among v w [] h = absurd h
has_among v w (e ∷ es) (inl k) = inl (ap (λ z. z.from) k, ap (λ z. z.to) k)
has_among v w (e ∷ es) (inr h) = inr (has_among v w es h)

-- the stops that are noted at the ends of arcs of a map
are_halts : (g : Geometry Pos) → IsSound g → (t : Arcs) → IsTableOf g t → (ks : List ℕ) (ends sorted : List ArcStep) → HasEnds t.arcs ks ends → IsPermutation ends sorted →
    (stops : List Pos) → AreJudged sorted stops → AreHalts t.arcs ks stops
are_halts g sound t table ks ends sorted has moved stops judged = record {
  exact = λ v. (stops_lie (OnArcs t.arcs ks) sorted stops on all others judged v, lies_stop (OnArcs t.arcs ks) sorted stops on all others judged v);
  meets = stops_meet (OnArcs t.arcs ks) sorted stops on all others judged;
}
  where
    back : (v w : Pos) → Has (step v w) sorted → AmongEnds v w ends
    back v w h = has_among v w ends (Has-permutation sorted ends (step v w) (IsPermutation-sym ends sorted moved) h)

    to : (v w : Pos) → AmongEnds v w ends → Has (step v w) sorted
    to v w h = Has-permutation ends sorted (step v w) moved (among_has v w ends h)

    on : (v w : Pos) → Has (step v w) sorted → OnArcs t.arcs ks v w
    on v w h = end_side g sound t table ks v w ((has v w).0 (back v w h))

    all : (v p w : Pos) → Has (step v p) sorted → OnArcs t.arcs ks v w → Has (step v w) sorted
    all v p w h s = to v w ((has v w).1 (end_sides g sound t table ks v p w ((has v p).0 (back v p h)) s))

    others : (v w : Pos) → OnArcs t.arcs ks v w → Has (step v w) sorted ⊎ OnTwo (OnArcs t.arcs ks) v
    others v w s = elim (end_or_two g sound t table ks v w s) [ inl h ↦ inl (to v w ((has v w).1 h)) | inr h ↦ inr h ]

-- in the form of the code
pub stops_means : {E : Type 0} (t : Arcs) (ks : List ℕ) (ends sorted slice : List ArcStep) (r : Result (Vec Pos) E) →
    HasEnds t.arcs ks ends → IsPermutation ends sorted → IsSorted by_vertex sorted → slice ≡ sorted → IfOk r (λ s. AreByVertex vertex_of slice → AreJudged slice s.items) →
    IfOk r (λ s. (g : Geometry Pos) → IsSound g → IsTableOf g t → AreHalts t.arcs ks s.items)
stops_means t ks ends sorted slice (Ok s) has moved order e judged = λ g sound table.
    are_halts g sound t table ks ends sorted has moved s.items
    (subst (λ w. AreByVertex vertex_of w → AreJudged w s.items) e judged (sorted_hold vertex_of sorted order))
stops_means t ks ends sorted slice (Err f) has moved order e judged = tt
