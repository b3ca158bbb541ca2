-- The ends of the arcs of a list of numbers, in their order and sorted.
use Rattle.std.proofs.Common.{eqb-true, eq-eqb, ◌≡◌, ℕ, Bool, true, false, nat_eq, ◌&&◌, List, [], ◌∷◌, ◌++◌, inl, inr, refl, sym, ap, ◌∙◌, subst, Option, Some, None}
use Rattle.std.specs.Cmp.{IsTotalOrder, on_total}
use Rattle.std.specs.List.{AllByRecursion, IsDistinct}
use Rattle.std.specs.List.Sorted.{IsPermutation, IsSorted}
use Rattle.std.specs.Ordering.{bool_cmp, nat_cmp, ordering_then}
use Rattle.std.specs.declared.cmp.Ordering.{Ordering}
use Rattle.std.proofs.lemmas.Map.Keys.{IsDistinct-IsPermutation}
use Rattle.theory.specs.ArcNumbers.{ArcRef}
use Rattle.theory.specs.Lists.{Distinct, Has}
use Rattle.theory.specs.Validity.{BeginsAt}
use Rattle.theory.proofs.Lists.{Has-append, Has-append_left, Has-append_right}
use Rattle.grid.specs.declared.pos.Pos.{Pos}
use Rattle.lines.specs.Positions.{position_total}
use Rattle.lines.specs.Turned.{position_cmp}
use Rattle.lines.proofs.Positions.{both_intro, both_true, true_false}
use Rattle.lines.proofs.SortedLists.{Rises, Up, rises_from_sorted, up_from_rises}
use Rattle.arcs.specs.Ends.{ends_along, first_end}
use Rattle.arcs.proofs.EndsAlong.{ends_run, run_ends}
use Rattle.arcs.proofs.Merged.{then_less}
use Rattle.split_heal.specs.ArcUseMap.{same_way}
use Rattle.split_heal.specs.declared.pseudo_nodes.ArcEnd.{ArcEnd}
use Rattle.split_heal.specs.PseudoNodes.{AreGrouped, Begins, all_ends, begin_at, end_at, end_if, ends_from, use_of, used_at}
use Rattle.split_heal.proofs.ByUses.{one_way, own_way}

pos_same : (v q : Pos) → Some v ≡ Some q → v ≡ q
pos_same v q e = cc

in_if : (o : Option Pos) (a : ArcRef) (e : ArcEnd) → Has e (end_if o a) → (o ≡ Some e.vertex) × (used_at e ≡ a)
in_if None a e h = absurd h
in_if (Some v) a e (inl i) = (ap (λ w. Some w.vertex) (sym i), ap used_at i)
in_if (Some v) a e (inr z) = absurd z

if_in : (o : Option Pos) (a p : ArcRef) (v : Pos) → o ≡ Some v → p ≡ a → Has (end_at v p) (end_if o a)
if_in None a p v e f = absurd cc
if_in (Some w) a p v e f = let g : v ≡ w = pos_same v w (sym e) in inl (λ i. end_at (g i) (f i))

module _ (arcs : List (List Pos)) where
  -- an end is the begin of a used arc of one of the numbers
  from_begins : (r : Bool) (ks : List ℕ) (e : ArcEnd) → Has e (ends_from arcs r ks) → Begins arcs e.vertex ks (used_at e)
  from_begins r [] e h = absurd h
  from_begins r (k ∷ ks) e h = elim (Has-append e (end_if (begin_at arcs (use_of r k)) (use_of r k)) (ends_from arcs r ks) h) [
    | inl i ↦ (let t = in_if (begin_at arcs (use_of r k)) (use_of r k) e i in (inl (ap (λ w. w.arc) t.1), ap (begin_at arcs) t.1 ∙ t.0))
    | inr i ↦ (let t = from_begins r ks e i in (inr t.0, t.1))
  ]

  -- used in this direction
  from_way : (r : Bool) (ks : List ℕ) (e : ArcEnd) → Has e (ends_from arcs r ks) → e.reversed ≡ r
  from_way r [] e h = absurd h
  from_way r (k ∷ ks) e h = elim (Has-append e (end_if (begin_at arcs (use_of r k)) (use_of r k)) (ends_from arcs r ks) h) [
    | inl i ↦ ap (λ w. w.reversed) (in_if (begin_at arcs (use_of r k)) (use_of r k) e i).1
    | inr i ↦ from_way r ks e i
  ]

  pub ends_begin : (ks : List ℕ) (e : ArcEnd) → Has e (all_ends arcs ks) → Begins arcs e.vertex ks (used_at e)
  ends_begin ks e h = elim (Has-append e (ends_from arcs false ks) (ends_from arcs true ks) h) [
    | inl i ↦ from_begins false ks e i
    | inr i ↦ from_begins true ks e i
  ]

  -- and each that begins is one
  begins_from : (ks : List ℕ) (v : Pos) (p : ArcRef) → Begins arcs v ks p → Has (end_at v p) (ends_from arcs p.reversed ks)
  begins_from [] v p b = absurd b.0
  begins_from (k ∷ ks) v p (inr i, b) =
      Has-append_right (end_at v p) (end_if (begin_at arcs (use_of p.reversed k)) (use_of p.reversed k)) (ends_from arcs p.reversed ks) (begins_from ks v p (i, b))
  begins_from (k ∷ ks) v p (inl q, b) =
      let same : p ≡ use_of p.reversed k = (λ i. record { arc = q i; reversed = p.reversed }) in
      Has-append_left (end_at v p) (end_if (begin_at arcs (use_of p.reversed k)) (use_of p.reversed k)) (ends_from arcs p.reversed ks)
      (if_in (begin_at arcs (use_of p.reversed k)) (use_of p.reversed k) p v (ap (begin_at arcs) (sym same) ∙ b) same)

  pub begins_end : (ks : List ℕ) (v : Pos) (p : ArcRef) → Begins arcs v ks p → Has (end_at v p) (all_ends arcs ks)
  begins_end ks v p b = way p.reversed (begins_from ks v p b)
    where
      way : (r : Bool) → Has (end_at v p) (ends_from arcs r ks) → Has (end_at v p) (all_ends arcs ks)
      way false h = Has-append_left (end_at v p) (ends_from arcs false ks) (ends_from arcs true ks) h
      way true h = Has-append_right (end_at v p) (ends_from arcs false ks) (ends_from arcs true ks) h

  pub begins_at : (q : Pos) (p : ArcRef) → begin_at arcs p ≡ Some q → BeginsAt arcs q p
  begins_at q p e = go (ends_along arcs p) refl e
    where
      go : (o : Option (Pos × Pos)) → ends_along arcs p ≡ o → first_end o ≡ Some q → BeginsAt arcs q p
      go None f k = absurd cc
      go (Some (x, y)) f k = let t = ends_run arcs p x y f in (t.0, t.1 ∙ ap (λ w. Some (w ∷ t.0)) (pos_same x q k))

  pub at_begins : (q : Pos) (p : ArcRef) → BeginsAt arcs q p → begin_at arcs p ≡ Some q
  at_begins q p (l, e) = ap first_end (run_ends arcs p q l e)

-- no used arc has two of the ends
abbrev AllDiffer : List ArcEnd → Type 0
AllDiffer [] = Unit {0}
AllDiffer (e ∷ l) = ((d : ArcEnd) → Has d l → ¬ (used_at e ≡ used_at d)) × AllDiffer l

AllDiffer-append : (xs ys : List ArcEnd) → AllDiffer xs → AllDiffer ys → ((x y : ArcEnd) → Has x xs → Has y ys → ¬ (used_at x ≡ used_at y)) → AllDiffer (xs ++ ys)
AllDiffer-append [] ys p q f = q
AllDiffer-append (x ∷ xs) ys p q f = (
  (λ d h. elim (Has-append d xs ys h) [ inl i ↦ p.0 d i | inr i ↦ f x d (inl refl) i ]),
  AllDiffer-append xs ys p.1 q (λ y d h i. f y d (inr h) i),
)

differ_if : (o : Option Pos) (a : ArcRef) → AllDiffer (end_if o a)
differ_if None a = tt
differ_if (Some v) a = ((λ d h. absurd h), tt)

from_differ : (arcs : List (List Pos)) (r : Bool) (ks : List ℕ) → Distinct ks → AllDiffer (ends_from arcs r ks)
from_differ arcs r [] once = tt
from_differ arcs r (k ∷ ks) once =
    AllDiffer-append (end_if (begin_at arcs (use_of r k)) (use_of r k)) (ends_from arcs r ks) (differ_if (begin_at arcs (use_of r k)) (use_of r k)) (from_differ arcs r ks once.1)
    (λ x y h i e. once.0
    (subst (λ w. Has w ks) (ap (λ w. w.arc) (sym e ∙ (in_if (begin_at arcs (use_of r k)) (use_of r k) x h).1)) (from_begins arcs r ks y i).0))

ends_differ : (arcs : List (List Pos)) (ks : List ℕ) → Distinct ks → AllDiffer (all_ends arcs ks)
ends_differ arcs ks once =
    AllDiffer-append (ends_from arcs false ks) (ends_from arcs true ks) (from_differ arcs false ks once) (from_differ arcs true ks once)
    (λ x y h i e. let f : false ≡ true = sym (from_way arcs false ks x h) ∙ ap (λ w. w.reversed) e ∙ from_way arcs true ks y i in cc)

abbrev same_used : ArcEnd → ArcEnd → Bool
same_used x y = nat_eq x.arc y.arc && same_way x.reversed y.reversed

same_is : (x y : ArcEnd) → same_used x y ≡ true → used_at x ≡ used_at y
same_is x y e =
    let t = both_true (nat_eq x.arc y.arc) (same_way x.reversed y.reversed) e in
    λ i. record { arc = eqb-true x.arc y.arc t.0 i; reversed = one_way x.reversed y.reversed t.1 i }

is_same : (x y : ArcEnd) → used_at x ≡ used_at y → same_used x y ≡ true
is_same x y e =
    both_intro (nat_eq x.arc y.arc) (same_way x.reversed y.reversed) (eq-eqb x.arc y.arc (ap (λ w. w.arc) e))
    (subst (λ r. same_way x.reversed r ≡ true) (ap (λ w. w.reversed) e) (own_way x.reversed))

flips : (x y : ArcEnd) → same_used x y ≡ same_used y x
flips x y = go (same_used x y) refl (same_used y x) refl
  where
    go : (b : Bool) → same_used x y ≡ b → (c : Bool) → same_used y x ≡ c → b ≡ c
    go true e true f = refl
    go true e false f = absurd (true_false (same_used y x) (is_same y x (sym (same_is x y e))) f)
    go false e true f = absurd (true_false (same_used x y) (is_same x y (sym (same_is y x f))) e)
    go false e false f = refl

apart_false : (x y : ArcEnd) → ¬ (used_at x ≡ used_at y) → same_used x y ≡ false
apart_false x y n = go (same_used x y) refl
  where
    go : (b : Bool) → same_used x y ≡ b → b ≡ false
    go true e = absurd (n (same_is x y e))
    go false e = refl

to_distinct : (l : List ArcEnd) → AllDiffer l → IsDistinct same_used l
unfolding IsDistinct
to_distinct [] d = tt
to_distinct (x ∷ l) d = (each l d.0, to_distinct l d.1)
  where
    each : (l : List ArcEnd) → ((y : ArcEnd) → Has y l → ¬ (used_at x ≡ used_at y)) → AllByRecursion (λ y. same_used x y ≡ false) l
    each [] f = tt
    each (y ∷ l) f = (apart_false x y (f y (inl refl)), each l (λ z h. f z (inr h)))

from_distinct : (l : List ArcEnd) → IsDistinct same_used l → AllDiffer l
unfolding IsDistinct
from_distinct [] d = tt
from_distinct (x ∷ l) d = (each l d.0, from_distinct l d.1)
  where
    each : (l : List ArcEnd) → AllByRecursion (λ y. same_used x y ≡ false) l → (y : ArcEnd) → Has y l → ¬ (used_at x ≡ used_at y)
    each [] f y h e = h
    each (z ∷ l) f y (inl i) e = true_false (same_used x z) (is_same x z (e ∙ ap used_at i)) f.0
    each (z ∷ l) f y (inr h) e = each l f.1 y h e

-- the order of ends
abbrev pub end_cmp : ArcEnd → ArcEnd → Ordering
end_cmp x y = ordering_then (position_cmp x.vertex y.vertex) (ordering_then (nat_cmp x.arc y.arc) (bool_cmp x.reversed y.reversed))

abbrev by_vertex : ArcEnd → ArcEnd → Ordering
by_vertex x y = position_cmp x.vertex y.vertex

by_vertex_total : IsTotalOrder by_vertex
by_vertex_total = on_total (λ (e : ArcEnd). e.vertex) position_total

rise : (x : ArcEnd) (l : List ArcEnd) → Rises end_cmp x l → Rises by_vertex x l
rise x [] r = tt
rise x (y ∷ l) r = (then_less (position_cmp y.vertex x.vertex) (ordering_then (nat_cmp y.arc x.arc) (bool_cmp y.reversed x.reversed)) r.0, rise y l r.1)

both : (l : List ArcEnd) → Up by_vertex l → AllDiffer l → AreGrouped l
both [] u d = tt
both (e ∷ l) u d = ((λ y h. (u.0 y h, d.0 y h)), both l u.1 d.1)

-- sorted ends are grouped
pub sorted_grouped : (arcs : List (List Pos)) (ks : List ℕ) (l : List ArcEnd) → Distinct ks → IsPermutation (all_ends arcs ks) l → IsSorted end_cmp l → AreGrouped l
sorted_grouped arcs ks l once p s =
    both l (up l s) (from_distinct l (IsDistinct-IsPermutation same_used flips (all_ends arcs ks) l p (to_distinct (all_ends arcs ks) (ends_differ arcs ks once))))
  where
    up : (l : List ArcEnd) → IsSorted end_cmp l → Up by_vertex l
    up [] s = tt
    up (x ∷ l) s = up_from_rises by_vertex by_vertex_total x l (rise x l (rises_from_sorted end_cmp x l s))
