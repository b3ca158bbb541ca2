-- Closed lists of rings, reversed.
use Rattle.std.proofs.Common.{◌≡◌, ◌≤◌, Bool, true, false, cond, List, [], ◌∷◌, ◌++◌, length, reverse, inl, inr, refl, sym, ap, ◌∙◌, subst, arith, None}
use Rattle.std.specs.List.{dedup_from}
use Rattle.std.proofs.lemmas.List.{length-reverse, reverse-reverse}
use Rattle.grid.specs.declared.pos.Pos.{Pos}
use Rattle.theory.specs.LinesAndRings.{IsRing, Trail, closed}
use Rattle.theory.specs.Lists.{Beside, Steps, front_of, last_of}
use Rattle.theory.specs.TopologyFunction.{same_vertex}
use Rattle.theory.proofs.JunctionTest.{same_vertex-equal, equal-same_vertex}
use Rattle.theory.proofs.Lists.{Steps-join}
use Rattle.theory.proofs.Reversing.{Steps-reverse, last_back, reverse-join, reverse-last, reverse-snoc}
use Rattle.lines.specs.Positions.{position_total, position_same}
use Rattle.lines.specs.Reading.{collapsed, collapsed_ring_fault, opened, ring_fault}
use Rattle.lines.specs.Turned.{position_cmp}
use Rattle.lines.proofs.ReadsItself.{ring_without_fault, trail_collapses}
use Rattle.lines.proofs.Trails.{Closes, ring_accepted}

pub same_is : (y x : Pos) → same_vertex position_cmp y x ≡ true → y ≡ x
same_is = same_vertex-equal position_cmp position_total position_same

is_same : (y x : Pos) → y ≡ x → same_vertex position_cmp y x ≡ true
is_same = equal-same_vertex position_cmp position_total position_same

-- the positions of l that differ from the one before, the first from x
abbrev pub after : Pos → List Pos → List Pos
after x [] = []
after x (y ∷ l) = cond (same_vertex position_cmp y x) (after x l) (y ∷ after y l)

after_from : (x : Pos) (l : List Pos) → dedup_from (same_vertex position_cmp) x l ≡ x ∷ after x l
after_from x [] = refl
after_from x (y ∷ l) = go (same_vertex position_cmp y x) (after_from x l) (after_from y l)
  where
    go : (b : Bool) → dedup_from (same_vertex position_cmp) x l ≡ x ∷ after x l → dedup_from (same_vertex position_cmp) y l ≡ y ∷ after y l →
        cond b (dedup_from (same_vertex position_cmp) x l) (x ∷ dedup_from (same_vertex position_cmp) y l) ≡ x ∷ cond b (after x l) (y ∷ after y l)
    go true h k = h
    go false h k = ap (λ w. x ∷ w) k

pub collapsed_after : (x : Pos) (l : List Pos) → collapsed position_cmp (x ∷ l) ≡ x ∷ after x l
collapsed_after x l = after_from x l

after_join : (x : Pos) (q s : List Pos) → after x (q ++ s) ≡ after x q ++ after (last_of x q) s
after_join x [] s = refl
after_join x (y ∷ q) s = go (same_vertex position_cmp y x) refl (after_join x q s) (after_join y q s)
  where
    go : (b : Bool) → same_vertex position_cmp y x ≡ b → after x (q ++ s) ≡ after x q ++ after (last_of x q) s →
        after y (q ++ s) ≡ after y q ++ after (last_of y q) s →
        cond b (after x (q ++ s)) (y ∷ after y (q ++ s)) ≡ cond b (after x q) (y ∷ after y q) ++ after (last_of y q) s
    go true e h k = h ∙ ap (λ z. after x q ++ after (last_of z q) s) (sym (same_is y x e))
    go false e h k = ap (λ w. y ∷ w) k

-- one more position at the end
collapsed-snoc : (z : Pos) (w : List Pos) (x : Pos) →
    collapsed position_cmp ((z ∷ w) ++ (x ∷ [])) ≡ collapsed position_cmp (z ∷ w) ++ cond (same_vertex position_cmp x (last_of z w)) [] (x ∷ [])
collapsed-snoc z w x =
    collapsed_after z (w ++ (x ∷ [])) ∙ ap (λ t. z ∷ t) (after_join z w (x ∷ []))
    ∙ ap (λ t. t ++ cond (same_vertex position_cmp x (last_of z w)) [] (x ∷ [])) (sym (collapsed_after z w))

collapsed-reverse : (c : List Pos) → collapsed position_cmp (reverse c) ≡ reverse (collapsed position_cmp c)
collapsed-reverse [] = refl
collapsed-reverse (x ∷ []) = refl
collapsed-reverse (x ∷ (y ∷ m)) =
    ap (collapsed position_cmp) (reverse-snoc x (y ∷ m) ∙ ap (λ w. w ++ (x ∷ [])) (reverse-last y m))
    ∙ collapsed-snoc (last_of y m) (reverse (front_of y m)) x
    ∙ ap (λ w. collapsed position_cmp (last_of y m ∷ reverse (front_of y m)) ++ cond (same_vertex position_cmp x w) [] (x ∷ [])) (last_back y m)
    ∙ ap (λ w. w ++ cond (same_vertex position_cmp x y) [] (x ∷ [])) (ap (collapsed position_cmp) (sym (reverse-last y m)) ∙ collapsed-reverse (y ∷ m) ∙ ap reverse (collapsed_after y m))
    ∙ go (same_vertex position_cmp x y) refl (same_vertex position_cmp y x) refl
    ∙ ap reverse (sym (collapsed_after x (y ∷ m)))
  where
    go : (b : Bool) → same_vertex position_cmp x y ≡ b → (d : Bool) → same_vertex position_cmp y x ≡ d →
        reverse (y ∷ after y m) ++ cond b [] (x ∷ []) ≡ reverse (x ∷ cond d (after x m) (y ∷ after y m))
    go true e true f = append_none (reverse (y ∷ after y m)) ∙ ap (λ z. reverse (z ∷ after z m)) (same_is y x f)
      where
        append_none : (l : List Pos) → l ++ [] ≡ l
        append_none [] = refl
        append_none (a ∷ l) = ap (λ w. a ∷ w) (append_none l)
    go true e false f = absurd (let k : true ≡ false = sym (is_same y x (sym (same_is x y e))) ∙ f in cc)
    go false e true f = absurd (let k : true ≡ false = sym (is_same x y (sym (same_is y x f))) ∙ e in cc)
    go false e false f = sym (reverse-snoc x (y ∷ after y m))

-- two trails with no segment in common, the one behind the other
Trail-behind : {V : Type 0} (x : V) (q s : List V) → Trail (x ∷ q) → Trail (last_of x q ∷ s) →
    ((u v : V) → Steps u v (x ∷ q) → ¬ Beside u v (last_of x q ∷ s)) → Trail (x ∷ (q ++ s))
Trail-behind x [] s t k n = k
Trail-behind {V} x (y ∷ q) s t k n = (
  (λ w b. subst (λ z. (¬ (x ≡ z)) × (¬ Beside x z (y ∷ (q ++ s)))) (sym b) ((t.0 y refl).0, once)),
  Trail-behind y q s t.1 k (λ u v h. n u v (inr h)),
)
  where
    once : ¬ Beside x y (y ∷ (q ++ s))
    once (inl h) = elim (Steps-join x y y q s h) [ inl i ↦ (t.0 y refl).1 (inl i) | inr i ↦ n x y (inl (refl, refl)) (inl i) ]
    once (inr h) = elim (Steps-join y x y q s h) [ inl i ↦ (t.0 y refl).1 (inr i) | inr i ↦ n x y (inl (refl, refl)) (inr i) ]

Trail-reverse : {V : Type 0} (l : List V) → Trail l → Trail (reverse l)
Trail-reverse [] t = tt
Trail-reverse (x ∷ []) t = t
Trail-reverse {V} (x ∷ (y ∷ m)) t =
    subst Trail (sym (reverse-snoc x (y ∷ m) ∙ ap (λ w. w ++ (x ∷ [])) (reverse-last y m)))
    (Trail-behind (last_of y m) (reverse (front_of y m)) (x ∷ []) (subst Trail (reverse-last y m) (Trail-reverse (y ∷ m) t.1))
    (subst (λ z. Trail (z ∷ (x ∷ []))) (sym (last_back y m)) ((λ z b. ((λ e. (t.0 y refl).0 (sym (e ∙ b))), (λ k. alone z k))), ((λ z b. absurd b), tt)))
    (λ u v h k. last u v h (subst (λ z. Beside u v (z ∷ (x ∷ []))) (last_back y m) k)))
  where
    alone : (z : V) → ¬ Beside y z (x ∷ [])
    alone z (inl (inl h)) = h.1
    alone z (inl (inr h)) = h
    alone z (inr (inl h)) = h.1
    alone z (inr (inr h)) = h

    before : (u v : V) → Steps u v (last_of y m ∷ reverse (front_of y m)) → Steps v u (y ∷ m)
    before u v h = subst (Steps v u) (reverse-reverse (y ∷ m)) (Steps-reverse u v (reverse (y ∷ m)) (subst (Steps u v) (sym (reverse-last y m)) h))

    ends : (u v : V) → ¬ Steps u v (x ∷ [])
    ends u v (inl h) = h.1
    ends u v (inr h) = h

    last : (u v : V) → Steps u v (last_of y m ∷ reverse (front_of y m)) → ¬ Beside u v (y ∷ (x ∷ []))
    last u v h (inl (inl k)) = (t.0 y refl).1 (inl (subst (λ z. Steps z y (y ∷ m)) k.1 (subst (λ z. Steps v z (y ∷ m)) k.0 (before u v h))))
    last u v h (inl (inr k)) = ends u v k
    last u v h (inr (inl k)) = (t.0 y refl).1 (inr (subst (λ z. Steps y z (y ∷ m)) k.1 (subst (λ z. Steps z u (y ∷ m)) k.0 (before u v h))))
    last u v h (inr (inr k)) = ends v u k

-- a ring the other way round, from the same vertex
abbrev pub back : List Pos → List Pos
back [] = []
back (x ∷ m) = x ∷ reverse m

pub closed_back : (r : List Pos) → reverse (closed r) ≡ closed (back r)
closed_back [] = refl
closed_back (x ∷ m) = reverse-snoc x (m ++ (x ∷ [])) ∙ ap (λ w. w ++ (x ∷ [])) (reverse-join m (x ∷ []))

pub back_ring : (r : List Pos) → IsRing r → IsRing (back r)
back_ring [] k = k
back_ring (x ∷ m) k =
    let n : 3 ≤ length (x ∷ m) = k.long in
    record { long = (let e = length-reverse m in omega (arith, n)); once = subst Trail (closed_back (x ∷ m)) (Trail-reverse (closed (x ∷ m)) k.once) }

-- the list of a ring, reversed
pub back_collapsed : (l r : List Pos) → collapsed position_cmp l ≡ closed r → collapsed position_cmp (reverse l) ≡ closed (back r)
back_collapsed l r e = collapsed-reverse l ∙ ap reverse e ∙ closed_back r

-- a closed list without a fault has none when it is reversed
pub reversed_sound : (l : List Pos) → ring_fault position_cmp l ≡ None → ring_fault position_cmp (reverse l) ≡ None
unfolding ring_fault
reversed_sound l e = go (ring_accepted position_cmp position_total position_same l e)
  where
    go : Closes position_cmp position_total position_same (collapsed position_cmp l) → collapsed_ring_fault position_cmp (collapsed position_cmp (reverse l)) ≡ None
    go k =
        let valid = back_ring (opened (collapsed position_cmp l)) k.is_ring in
        ap (collapsed_ring_fault position_cmp)
        (back_collapsed l (opened (collapsed position_cmp l)) k.is
        ∙ sym (trail_collapses position_cmp position_total position_same (closed (back (opened (collapsed position_cmp l)))) valid.once))
        ∙ ring_without_fault position_cmp position_total position_same (back (opened (collapsed position_cmp l))) valid
