-- Neighbours that clash, in a list of visits that is sorted by vertex.
use Rattle.std.proofs.Common.{◌≡◌, Bool, true, false, cond, not, List, [], ◌∷◌, inl, inr, refl, sym, ap, ◌∙◌, subst}
use Rattle.std.specs.Cmp.{IsTotalOrder, on_total}
use Rattle.std.specs.Ordering.{is_gt}
use Rattle.std.specs.declared.cmp.Ordering.{Ordering}
use Rattle.grid.specs.declared.pos.Pos.{Pos}
use Rattle.lines.specs.Turned.{position_cmp}
use Rattle.theory.specs.Lists.{Has}
use Rattle.lines.specs.Pairs.{position_eq, pair_eq}
use Rattle.chains.specs.Visits.{visit_eq, clash, clashes_from, clashes_of}
use Rattle.chains.specs.declared.visits.Visit.{Visit}
use Rattle.lines.proofs.SortedLists.{Up, squeezed}
use Rattle.lines.specs.Positions.{position_total, position_same}
use Rattle.lines.proofs.Positions.{position_true, position_refl, both_true, both_intro}
use Rattle.lines.proofs.Pairs.{pair_true, pair_refl}

-- visits by their vertices
abbrev pub visit_cmp : Visit → Visit → Ordering
visit_cmp a b = position_cmp a.vertex b.vertex

pub visit_total : IsTotalOrder visit_cmp
visit_total = on_total (λ (v : Visit). v.vertex) position_total

-- two different visits of v
pub record Clash (v : Pos) (ys : List Visit) : Type 0 where
  pub one : Visit
  pub other : Visit
  pub has_one : Has one ys
  pub has_other : Has other ys
  pub at_one : one.vertex ≡ v
  pub at_other : other.vertex ≡ v
  pub differ : ¬ (one ≡ other)

pub visit_true : (a b : Visit) → visit_eq a b ≡ true → a ≡ b
visit_true a b e =
    let h = both_true (position_eq a.vertex b.vertex) (pair_eq a.sides b.sides) e in
    let p : a.vertex ≡ b.vertex = position_true a.vertex b.vertex h.0 in
    let q : a.sides ≡ b.sides = pair_true a.sides b.sides h.1 in
    λ i. record { vertex = p i; sides = q i }

pub visit_refl : (a b : Visit) → a ≡ b → visit_eq a b ≡ true
visit_refl a b e =
    subst (λ w. visit_eq a w ≡ true) e (both_intro (position_eq a.vertex a.vertex) (pair_eq a.sides a.sides) (position_refl a.vertex) (pair_refl a.sides a.sides refl))

not_true : (b : Bool) → not b ≡ true → b ≡ false
not_true true e = sym e
not_true false e = refl

clash_yes : (a b : Visit) → clash a b ≡ true → (a.vertex ≡ b.vertex) × (¬ (a ≡ b))
clash_yes a b e =
    let h = both_true (position_eq a.vertex b.vertex) (not (visit_eq a b)) e in
    (position_true a.vertex b.vertex h.0, λ p. (let f : visit_eq a b ≡ true = visit_refl a b p in let g : visit_eq a b ≡ false = not_true (visit_eq a b) h.1 in cc))

clash_no : (a b : Visit) → clash a b ≡ false → a.vertex ≡ b.vertex → a ≡ b
clash_no a b e p =
    let f : position_eq a.vertex b.vertex ≡ true = subst (λ w. position_eq a.vertex w ≡ true) p (position_refl a.vertex) in
    go (visit_eq a b) refl (both_intro (position_eq a.vertex b.vertex) (not (visit_eq a b)) f)
  where
    go : (t : Bool) → visit_eq a b ≡ t → (not (visit_eq a b) ≡ true → clash a b ≡ true) → a ≡ b
    go true q k = visit_true a b q
    go false q k = let m : clash a b ≡ true = k (ap not q) in absurd cc

clash_later : (v : Pos) (b : Visit) (l : List Visit) → Clash v l → Clash v (b ∷ l)
clash_later v b l c = record { one = c.one; other = c.other; has_one = inr c.has_one; has_other = inr c.has_other; at_one = c.at_one; at_other = c.at_other; differ = c.differ }

pub clash_from_neighbours : (v : Pos) (b : Visit) (l : List Visit) → Has v (clashes_from b l) → Clash v (b ∷ l)
clash_from_neighbours v b [] h = absurd h
clash_from_neighbours v b (a ∷ l) h = go (λ k. clash_later v b (a ∷ l) (clash_from_neighbours v a l k)) (clash a b) refl h
  where
    go : (Has v (clashes_from a l) → Clash v (b ∷ (a ∷ l))) → (t : Bool) → clash a b ≡ t →
        Has v (cond t (a.vertex ∷ clashes_from a l) (clashes_from a l)) → Clash v (b ∷ (a ∷ l))
    go f true e (inl k) =
        let y = clash_yes a b e in
        record { one = a; other = b; has_one = inr (inl refl); has_other = inl refl; at_one = sym k; at_other = sym y.0 ∙ sym k; differ = y.1 }
    go f true e (inr k) = f k
    go f false e k = f k

-- between b and q, which have one vertex, a has it too
between_vertices : (b a q : Visit) (l : List Visit) → Up visit_cmp (b ∷ (a ∷ l)) → Has q (a ∷ l) → b.vertex ≡ q.vertex → a.vertex ≡ b.vertex
between_vertices b a q l u (inl e) p = sym (p ∙ ap (λ w. w.vertex) e)
between_vertices b a q l u (inr h) p =
    let g : is_gt (position_cmp a.vertex b.vertex) ≡ false = subst (λ w. is_gt (position_cmp a.vertex w) ≡ false) (sym p) (u.1.0 q h) in
    position_same a.vertex b.vertex (squeezed visit_cmp visit_total (position_cmp a.vertex b.vertex) (position_cmp b.vertex a.vertex) (position_total.antisymm a.vertex b.vertex) g (u.0 a (inl refl)))

keep : (v : Pos) (t : Bool) (p : Pos) (l : List Pos) → Has v l → Has v (cond t (p ∷ l) l)
keep v true p l h = inr h
keep v false p l h = h

-- b has the vertex v, and a later visit q of v differs from it
one_side : (v : Pos) (b a q : Visit) (l : List Visit) → Up visit_cmp (b ∷ (a ∷ l)) → Has q (a ∷ l) → b.vertex ≡ v → q.vertex ≡ v → ¬ (b ≡ q) →
    (Clash v (a ∷ l) → Has v (clashes_from a l)) → Has v (clashes_from b (a ∷ l))
one_side v b a q l u h at_b at_q d f = go (clash a b) refl
  where
    same : a.vertex ≡ b.vertex
    same = between_vertices b a q l u h (at_b ∙ sym at_q)

    go : (t : Bool) → clash a b ≡ t → Has v (cond t (a.vertex ∷ clashes_from a l) (clashes_from a l))
    go true e = inl (sym (same ∙ at_b))
    go false e =
        let r : a ≡ b = clash_no a b e same in
        f (record { one = a; other = q; has_one = inl refl; has_other = h; at_one = same ∙ at_b; at_other = at_q; differ = λ z. d (sym r ∙ z) })

pub neighbours_from_clash : (v : Pos) (b : Visit) (l : List Visit) → Up visit_cmp (b ∷ l) → Clash v (b ∷ l) → Has v (clashes_from b l)
neighbours_from_clash v b [] u c = alone c.has_one c.has_other
  where
    alone : Has c.one (b ∷ []) → Has c.other (b ∷ []) → ⊥
    alone (inl p) (inl q) = c.differ (p ∙ sym q)
    alone (inr p) q = p
    alone (inl p) (inr q) = q
neighbours_from_clash v b (a ∷ l) u c = both c.has_one c.has_other (λ k. neighbours_from_clash v a l u.1 k)
  where
    both : Has c.one (b ∷ (a ∷ l)) → Has c.other (b ∷ (a ∷ l)) → (Clash v (a ∷ l) → Has v (clashes_from a l)) → Has v (clashes_from b (a ∷ l))
    both (inl p) (inl q) f = absurd (c.differ (p ∙ sym q))
    both (inl p) (inr q) f = one_side v b a c.other l u q (ap (λ w. w.vertex) (sym p) ∙ c.at_one) c.at_other (λ z. c.differ (p ∙ z)) f
    both (inr p) (inl q) f = one_side v b a c.one l u p (ap (λ w. w.vertex) (sym q) ∙ c.at_other) c.at_one (λ z. c.differ (sym z ∙ sym q)) f
    both (inr p) (inr q) f =
        keep v (clash a b) a.vertex (clashes_from a l)
        (f (record { one = c.one; other = c.other; has_one = p; has_other = q; at_one = c.at_one; at_other = c.at_other; differ = c.differ }))

pub clash_from_sorted : (v : Pos) (ys : List Visit) → Has v (clashes_of ys) → Clash v ys
clash_from_sorted v [] h = absurd h
clash_from_sorted v (b ∷ l) h = clash_from_neighbours v b l h

pub sorted_from_clash : (v : Pos) (ys : List Visit) → Up visit_cmp ys → Clash v ys → Has v (clashes_of ys)
sorted_from_clash v [] u c = c.has_one
sorted_from_clash v (b ∷ l) u c = neighbours_from_clash v b l u c
