-- Uses that stand by positions, vertex by vertex.
use Rattle.std.proofs.Common.{◌≡◌, ◌+◌, ◌⊎◌, ◌<ℤ◌, ℕ, suc, false, cond, List, [], ◌∷◌, ◌++◌, take, drop, inl, inr, refl, sym, ap, ◌∙◌, subst, arith}
use Rattle.std.proofs.lemmas.List.{append_assoc, append-nil, take-append-drop}
use Rattle.std.specs.List.{AllByRecursion}
use Rattle.std.specs.List.Sorted.{IsSorted}
use Rattle.std.specs.Ordering.{int_cmp, is_gt, nat_cmp, ordering_then, MatchOrdering}
use Rattle.std.specs.declared.cmp.Ordering.{Ordering}
use Rattle.std.specs.declared.cmp.Ordering.TheVariants.{Less, Equal, Greater}
use Rattle.std.specs.Cmp.{IsTotalOrder, int_ranks, then_total, on_total, nat_cmp_total, tied_itself}
use Rattle.grid.specs.declared.pos.Pos.{Pos}
use Rattle.lines.specs.ByVertex.{AreByVertex, count_at}
use Rattle.lines.specs.Positions.{position_total, position_same}
use Rattle.lines.specs.Turned.{position_cmp}
use Rattle.lines.proofs.Positions.{position_refl}
use Rattle.lines.proofs.ByVertex.{behind_at, here_at, are_behind}
use Rattle.lines.proofs.SortedLists.{Up, up_from_sorted}
use Rattle.theory.specs.Lists.{Has, gathered}
use Rattle.theory.proofs.Ascending.{at_most_less}
use Rattle.theory.proofs.Lists.{Has-append_right}
use Rattle.compare.specs.Quality.Near.{Ascend, Before}
use Rattle.compare.specs.Quality.Uses.{AreThere, use_cmp}
use Rattle.compare.specs.declared.quality.vertex.Vertex.{Vertex}
use Rattle.compare.specs.declared.quality.vertex.VertexUse.{VertexUse}

pub use_total : IsTotalOrder use_cmp
use_total = then_total (on_total (λ (u : VertexUse). u.at) position_total) (on_total (λ (u : VertexUse). u.feature) nat_cmp_total)

not_after : (r s : Ordering) → is_gt (ordering_then r s) ≡ false → is_gt r ≡ false
not_after Less s e = refl
not_after Equal s e = refl
not_after Greater s e = e

-- sorted uses stand by positions
pub stand : (us : List VertexUse) → IsSorted use_cmp us → AreByVertex (λ u. u.at) us
stand us s = go us (up_from_sorted use_cmp use_total us s)
  where
    go : (l : List VertexUse) → Up use_cmp l → AreByVertex (λ u. u.at) l
    go [] u = tt
    go (x ∷ l) u = ((λ y h. not_after (position_cmp x.at y.at) (nat_cmp x.feature y.feature) (u.0 y h)), go l u.1)

-- the vertices have the uses before these, and each has those of its position
pub record Grouped (us left : List VertexUse) (vs : List Vertex) : Type 0 where
  pub all : gathered (λ v. v.uses.now) vs ++ left ≡ us
  pub there : AllByRecursion AreThere vs

-- each vertex lies before all behind it, and before the uses that are left
pub record Ordered (left : List VertexUse) (vs : List Vertex) : Type 0 where
  pub stand : AreByVertex (λ u. u.at) left
  pub ascend : Ascend vs
  pub before : (v : Vertex) → Has v vs → (u : VertexUse) → Has u left → position_cmp v.at u.at ≡ Less

gathered_behind : {A B : Type 0} (f : A → List B) (xs : List A) (x : A) → gathered f (xs ++ (x ∷ [])) ≡ gathered f xs ++ f x
gathered_behind f [] x = append-nil (f x)
gathered_behind f (y ∷ xs) x = ap (λ l. f y ++ l) (gathered_behind f xs x) ∙ sym (append_assoc (f y) (gathered f xs) (f x))

all_behind : {A : Type 0} (P : A → Type 0) (xs : List A) (x : A) → AllByRecursion P xs → P x → AllByRecursion P (xs ++ (x ∷ []))
all_behind P [] x a h = (h, tt)
all_behind P (y ∷ xs) x a h = (a.0, all_behind P xs x a.1 h)

ascend_behind : (vs : List Vertex) (v : Vertex) → Ascend vs → ((w : Vertex) → Has w vs → Before w v) → Ascend (vs ++ (v ∷ []))
ascend_behind [] v a h = (tt, tt)
ascend_behind (w ∷ vs) v a h = (all_behind (Before w) vs v a.0 (h w (inl refl)), ascend_behind vs v a.1 (λ x i. h x (inr i)))

has_behind : {A : Type 0} (xs : List A) (x y : A) → Has y (xs ++ (x ∷ [])) → Has y xs ⊎ (y ≡ x)
has_behind [] x y (inl e) = inr e
has_behind [] x y (inr h) = absurd h
has_behind (z ∷ xs) x y (inl e) = inl (inl e)
has_behind (z ∷ xs) x y (inr h) = elim (has_behind xs x y h) [ inl i ↦ inl (inr i) | inr e ↦ inr e ]

-- a position that comes before another one does so by its numbers
comes_before : (p q : Pos) → position_cmp p q ≡ Less → (p.x <ℤ q.x) ⊎ ((p.x ≡ q.x) × (p.y <ℤ q.y))
comes_before p q e = go (int_cmp p.x q.x) (int_ranks p.x q.x) (int_cmp p.y q.y) (int_ranks p.y q.y) e
  where
    go : (r : Ordering) → MatchOrdering r (p.x <ℤ q.x) (p.x ≡ q.x) (q.x <ℤ p.x) → (s : Ordering) → MatchOrdering s (p.y <ℤ q.y) (p.y ≡ q.y) (q.y <ℤ p.y) →
        ordering_then r s ≡ Less → (p.x <ℤ q.x) ⊎ ((p.x ≡ q.x) × (p.y <ℤ q.y))
    go Less h s k e = inl h
    go Equal h Less k e = inr (h, k)
    go Equal h Equal k e = cc
    go Equal h Greater k e = cc
    go Greater h s k e = cc

pub starts : (us : List VertexUse) (vs : List Vertex) → vs ≡ [] → Grouped us us vs
starts us vs e = record { all = ap (λ l. gathered (λ v. v.uses.now) l ++ us) e; there = subst (AllByRecursion AreThere) (sym e) tt }

pub ordered_starts : (us : List VertexUse) (vs : List Vertex) → vs ≡ [] → IsSorted use_cmp us → Ordered us vs
ordered_starts us vs e s = record { stand = stand us s; ascend = subst Ascend (sym e) tt; before = λ v h. absurd (subst (Has v) e h) }

module _ (us left others here behind : List VertexUse) (first : VertexUse) (vs new : List Vertex) (v : Vertex) (n : ℕ)
    (is : left ≡ first ∷ others) (count : n ≡ count_at (λ u. u.at) first.at others) (front : here ≡ take (1 + n) left) (back : behind ≡ drop (1 + n) left)
    (made : new ≡ vs ++ (v ∷ [])) (at : v.at ≡ first.at) (uses : v.uses.now ≡ here) where
  abbrev place : VertexUse → Pos
  place u = u.at

  number : 1 + n ≡ count_at place first.at left
  number =
      let more : 1 + n ≡ suc n = omega arith in
      more ∙ ap suc count ∙ sym (ap (λ b. cond b (suc (count_at place first.at others)) 0) (position_refl first.at)) ∙ sym (ap (count_at place first.at) is)

  both : here ++ behind ≡ left
  both = ap (λ l. l ++ behind) front ∙ ap (λ l. take (1 + n) left ++ l) back ∙ take-append-drop (1 + n) left

  first_left : Has first left
  first_left = subst (Has first) (sym is) (inl refl)

  behind_left : (u : VertexUse) → Has u behind → Has u left
  behind_left u h = subst (Has u) both (Has-append_right u here behind h)

  at_first : AreThere v
  at_first u h = here_at place first.at left u (subst (λ k. Has u (take k left)) number (subst (Has u) (uses ∙ front) h)) ∙ sym at

  pub grouped_step : Grouped us left vs → Grouped us behind new
  grouped_step g = record {
    all =
        ap (λ l. gathered (λ w. w.uses.now) l ++ behind) made ∙ ap (λ l. l ++ behind) (gathered_behind (λ w. w.uses.now) vs v)
        ∙ append_assoc (gathered (λ w. w.uses.now) vs) v.uses.now behind ∙ ap (λ l. gathered (λ w. w.uses.now) vs ++ (l ++ behind)) uses
        ∙ ap (λ l. gathered (λ w. w.uses.now) vs ++ l) both ∙ g.all;
    there = subst (AllByRecursion AreThere) (sym made) (all_behind AreThere vs v g.there at_first);
  }

  pub ordered_step : Ordered left vs → Ordered behind new
  ordered_step o = record {
    stand = are_behind place here behind (subst (AreByVertex place) (sym both) o.stand);
    ascend = subst Ascend (sym made) (ascend_behind vs v o.ascend (λ w h. comes_before w.at v.at (subst (λ p. position_cmp w.at p ≡ Less) (sym at) (o.before w h first first_left))));
    before = λ w h u i. elim (has_behind vs v w (subst (Has w) made h)) [
      | inl j ↦ o.before w j u (behind_left u i)
      | inr e ↦ subst (λ p. position_cmp p u.at ≡ Less) (sym (ap (λ x. x.at) e ∙ at)) (first_less u i)
    ];
  }
    where
      least : (u : VertexUse) → Has u left → is_gt (position_cmp first.at u.at) ≡ false
      least u h = from_first (subst (AreByVertex place) is o.stand) u (subst (Has u) is h)
        where
          from_first : AreByVertex place (first ∷ others) → (u : VertexUse) → Has u (first ∷ others) → is_gt (position_cmp first.at u.at) ≡ false
          from_first g u (inl e) = subst (λ w. is_gt (position_cmp first.at w.at) ≡ false) (sym e) (ap is_gt (tied_itself position_total first.at))
          from_first g u (inr h) = g.0 u h

      first_less : (u : VertexUse) → Has u behind → position_cmp first.at u.at ≡ Less
      first_less u h =
          elim (at_most_less position_cmp position_total position_same first.at u.at (least u (behind_left u h))) [
            | inl l ↦ l
            | inr e ↦ absurd (behind_at place first.at left least o.stand u (subst (λ k. Has u (drop k left)) number (subst (Has u) back h)) (sym e))
          ]

-- where none are left
pub all_grouped : (us left : List VertexUse) (vs : List Vertex) → left ≡ [] → Grouped us left vs → gathered (λ v. v.uses.now) vs ≡ us
all_grouped us left vs e g = sym (append-nil (gathered (λ v. v.uses.now) vs)) ∙ sym (ap (λ l. gathered (λ v. v.uses.now) vs ++ l) e) ∙ g.all
