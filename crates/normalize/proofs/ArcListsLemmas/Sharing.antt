-- Labels that agree at neighbours of a sorted list of segments: arcs that share a segment have one label.
use Rattle.std.proofs.Common.{◌≡◌, ℕ, Bool, true, false, cond, not, ◌||◌, nat_eq, List, [], ◌∷◌, inl, inr, refl, sym, ap, ◌∙◌, subst}
use Rattle.std.proofs.lemmas.Bool.{eqb-true}
use Rattle.std.specs.Cmp.{IsTotalOrder, nat_cmp_total, on_total, then_total}
use Rattle.std.specs.Ordering.{is_gt, nat_cmp, ordering_then}
use Rattle.std.specs.declared.cmp.Ordering.{Ordering}
use Rattle.std.specs.declared.cmp.Ordering.TheVariants.{Less, Equal, Greater}
use Rattle.grid.specs.declared.pos.Pos.{Pos}
use Rattle.lines.specs.Pairs.{pair_cmp, pair_eq, pair_of}
use Rattle.lines.specs.Reading.{collapsed}
use Rattle.lines.specs.Segments.{segments_from, segments_of}
use Rattle.lines.specs.Turned.{position_cmp}
use Rattle.lines.specs.declared.pair.PositionPair.{PositionPair}
use Rattle.lines.proofs.Pairs.{pair_at, pair_flip, pair_refl, pair_tied, pair_total}
use Rattle.lines.proofs.SortedLists.{Up, squeezed, up_from_sorted}
use Rattle.theory.specs.Lists.{Beside, Has, Steps}
use Rattle.normalize.specs.ArcLists.Labels.{ShareLabels, agree, agree_from, all_agree, label_at}
use Rattle.normalize.specs.ArcLists.Segments.{HaveSegments, segment_cmp, segment_in}
use Rattle.normalize.specs.declared.arc_lists.segments.NumberedSegment.{NumberedSegment}

-- ---- pairs of neighbours

steps_pair : (x y u : Pos) (l : List Pos) → Steps x y (u ∷ l) → Has (pair_of x y) (segments_from u l)
steps_pair x y u [] (inl h) = absurd h.1
steps_pair x y u [] (inr h) = absurd h
steps_pair x y u (w ∷ l) (inl h) = inl (pair_at x y u w h.0 h.1)
steps_pair x y u (w ∷ l) (inr h) = inr (steps_pair x y w l h)

pub beside_pair : (x y : Pos) (l : List Pos) → Beside x y l → Has (pair_of x y) (segments_of l)
beside_pair x y [] (inl h) = absurd h
beside_pair x y [] (inr h) = absurd h
beside_pair x y (u ∷ l) (inl h) = steps_pair x y u l h
beside_pair x y (u ∷ l) (inr h) = subst (λ s. Has s (segments_from u l)) (pair_flip y x) (steps_pair y x u l h)

-- ---- segments in order

pub segment_total : IsTotalOrder segment_cmp
segment_total = then_total (on_total (λ (s : NumberedSegment). s.pair) pair_total) (on_total (λ (s : NumberedSegment). s.arc) nat_cmp_total)

pair_most : (s t : NumberedSegment) → is_gt (segment_cmp s t) ≡ false → is_gt (pair_cmp s.pair t.pair) ≡ false
pair_most s t = go (pair_cmp s.pair t.pair)
  where
    go : (r : Ordering) → is_gt (ordering_then r (nat_cmp s.arc t.arc)) ≡ false → is_gt r ≡ false
    go Less e = refl
    go Equal e = refl
    go Greater e = e

-- one between two that have the same pair has it too
between : (s t w : NumberedSegment) → is_gt (segment_cmp s t) ≡ false → is_gt (segment_cmp t w) ≡ false → s.pair ≡ w.pair → s.pair ≡ t.pair
between s t w h k e =
    pair_tied s.pair t.pair
    (squeezed pair_cmp pair_total (pair_cmp s.pair t.pair) (pair_cmp t.pair s.pair) (pair_total.antisymm s.pair t.pair) (pair_most s t h)
    (subst (λ p. is_gt (pair_cmp t.pair p) ≡ false) (sym e) (pair_most t w k)))

-- ---- labels

agreed : (ls : List ℕ) (s t : NumberedSegment) → agree ls s t ≡ true → s.pair ≡ t.pair → label_at ls s.arc ≡ label_at ls t.arc
agreed ls s t e p = go (pair_eq s.pair t.pair) (pair_refl s.pair t.pair p) (nat_eq (label_at ls s.arc) (label_at ls t.arc)) refl e
  where
    go : (b : Bool) → b ≡ true → (d : Bool) → nat_eq (label_at ls s.arc) (label_at ls t.arc) ≡ d → (not b || d) ≡ true → label_at ls s.arc ≡ label_at ls t.arc
    go true q true f h = eqb-true (label_at ls s.arc) (label_at ls t.arc) f
    go true q false f h = absurd cc
    go false q d f h = absurd cc

both : (a b : Bool) → cond a b false ≡ true → (a ≡ true) × (b ≡ true)
both true b e = (refl, e)
both false b e = absurd cc

first_agrees : (ls : List ℕ) (x : NumberedSegment) (l : List NumberedSegment) → Up segment_cmp (x ∷ l) → agree_from ls x l ≡ true → (t : NumberedSegment) → Has t l → x.pair ≡ t.pair →
    label_at ls x.arc ≡ label_at ls t.arc
first_agrees ls x [] u e t h p = absurd h
first_agrees ls x (y ∷ l) u e t (inl q) p =
    agreed ls x y (both (agree ls x y) (agree_from ls y l) e).0 (p ∙ ap (λ w. w.pair) q) ∙ ap (λ w. label_at ls w.arc) (sym q)
first_agrees ls x (y ∷ l) u e t (inr h) p =
    let k = both (agree ls x y) (agree_from ls y l) e in
    let m : x.pair ≡ y.pair = between x y t (u.0 y (inl refl)) (u.1.0 t h) p in
    agreed ls x y k.0 m ∙ first_agrees ls y l u.1 k.1 t h (sym m ∙ p)

behind_agree : (ls : List ℕ) (x : NumberedSegment) (l : List NumberedSegment) → agree_from ls x l ≡ true → all_agree ls l ≡ true
behind_agree ls x [] e = refl
behind_agree ls x (y ∷ l) e = (both (agree ls x y) (agree_from ls y l) e).1

one_label : (ls : List ℕ) (l : List NumberedSegment) → Up segment_cmp l → all_agree ls l ≡ true → (s : PositionPair) (i j : ℕ) → Has (segment_in i s) l → Has (segment_in j s) l →
    label_at ls i ≡ label_at ls j
one_label ls [] u e s i j h k = absurd h
one_label ls (x ∷ l) u e s i j (inl h) (inl k) = ap (λ w. label_at ls w.arc) (h ∙ sym k)
one_label ls (x ∷ l) u e s i j (inl h) (inr k) = ap (λ w. label_at ls w.arc) h ∙ first_agrees ls x l u e (segment_in j s) k (ap (λ w. w.pair) (sym h))
one_label ls (x ∷ l) u e s i j (inr h) (inl k) = sym (ap (λ w. label_at ls w.arc) k ∙ first_agrees ls x l u e (segment_in i s) h (ap (λ w. w.pair) (sym k)))
one_label ls (x ∷ l) u e s i j (inr h) (inr k) = one_label ls l u.1 (behind_agree ls x l e) s i j h k

pub labels_shared : (arcs : List (List Pos)) (v : List NumberedSegment) (ls : List ℕ) → HaveSegments arcs v → all_agree ls v ≡ true → ShareLabels arcs ls
labels_shared arcs v ls have e i j c d x y p q h k =
    one_label ls v (up_from_sorted segment_cmp segment_total v have.sorted) e (pair_of x y) i j
    (have.each i c (pair_of x y) p (beside_pair x y (collapsed position_cmp c) h)) (have.each j d (pair_of x y) q (beside_pair x y (collapsed position_cmp d) k))
