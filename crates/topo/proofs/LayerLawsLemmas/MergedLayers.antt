-- The entries of the union of two maps are those of both, united.
use Rattle.std.proofs.Common.{◌≡◌, Bool, true, false, cond, List, [], ◌∷◌, Option, Some, None, refl, sym, ap, ◌∙◌}
use Rattle.std.specs.Prelude.{map as map_list}
use Rattle.std.specs.List.{AllByRecursion}
use Rattle.std.specs.List.Sorted.{IsStrictlySortedBy}
use Rattle.std.specs.Ordering.{eq_by_cmp, is_eq, nat_cmp, ordering_reverse}
use Rattle.std.specs.Cmp.{IsTotalOrder, alike_right}
use Rattle.std.specs.Cmp.Lexicographic.{nat_list_cmp_total, slice_cmp}
use Rattle.std.specs.declared.cmp.Ordering.{Ordering}
use Rattle.std.specs.declared.cmp.Ordering.TheVariants.{Less, Equal, Greater}
use Rattle.std.specs.FinMap as map
use Rattle.shapes.specs.Maps.{Features, Layers}
use Rattle.shapes.specs.OrderLaws.{same_text}
use Rattle.shapes.specs.Sets as set
use Rattle.shapes.specs.Union as unions
use Rattle.shapes.specs.Union.{union, get-union}
use Rattle.topo.specs.LayerLaws.Cuts.{entries_united, united, united_into}
use Rattle.topo.proofs.LayerLawsLemmas.Ascending.{are_entries, keys_ascend}
use Rattle.topo.proofs.LayerLawsLemmas.MergedSets.{all_weaker, picked}

module _ {K X : Type 0} (R : K → K → Ordering) (o : IsTotalOrder R) (both : X → X → X) where
  abbrev Entry : Type 0
  Entry = K × X

  abbrev keys : List Entry → List K
  keys es = map_list (λ e. e.0) es

  abbrev by_key : Entry → Entry → Ordering
  by_key a b = R a.0 b.0

  abbrev one : Entry → Entry → Entry
  one a b = (a.0, both a.1 b.1)

  module _ (P : K → Type 0) where
    all_into : (x : Entry) (rest : List Entry → List Entry) → P x.0 → ((ys : List Entry) → AllByRecursion P (keys ys) → AllByRecursion P (keys (rest ys))) →
        (ys : List Entry) → AllByRecursion P (keys ys) → AllByRecursion P (keys (united_into by_key one x rest ys))
    all_into x rest p h [] k = (p, h [] k)
    all_into x rest p h (y ∷ ys) k =
        picked (λ l. AllByRecursion P (keys l)) (R x.0 y.0) _ _ _ (λ _. (p, h (y ∷ ys) k)) (λ _. (p, h ys k.1)) (λ _. (k.0, all_into x rest p h ys k.1))

    all_united : (xs ys : List Entry) → AllByRecursion P (keys xs) → AllByRecursion P (keys ys) → AllByRecursion P (keys (united by_key one xs ys))
    all_united [] ys h k = k
    all_united (x ∷ xs) ys h k = all_into x (united by_key one xs) h.0 (λ zs. all_united xs zs h.1) ys k

  under : (x y : K) → R x y ≡ Greater → R y x ≡ Less
  under x y h = o.antisymm y x ∙ ap ordering_reverse h

  ascends_into : (x : Entry) (xs : List Entry) → IsStrictlySortedBy R (keys (x ∷ xs)) →
      ((ys : List Entry) → IsStrictlySortedBy R (keys ys) → IsStrictlySortedBy R (keys (united by_key one xs ys))) →
      (ys : List Entry) → IsStrictlySortedBy R (keys ys) → IsStrictlySortedBy R (keys (united by_key one (x ∷ xs) ys))
  unfolding IsStrictlySortedBy
  ascends_into x xs s h [] t = (all_united (λ z. R x.0 z ≡ Less) xs [] s.0 tt, h [] t)
  ascends_into x xs s h (y ∷ ys) t =
      picked (λ l. IsStrictlySortedBy R (keys l)) (R x.0 y.0) _ _ _
      (λ k. (all_united (λ z. R x.0 z ≡ Less) xs (y ∷ ys) s.0 (k, all_weaker (λ z. R y.0 z ≡ Less) (λ z. R x.0 z ≡ Less) (λ z. o.trans x.0 y.0 z k) (keys ys) t.0), h (y ∷ ys) t))
      (λ k. (all_united (λ z. R x.0 z ≡ Less) xs ys s.0 (all_weaker (λ z. R y.0 z ≡ Less) (λ z. R x.0 z ≡ Less) (λ z l. o.congr x.0 y.0 z k ∙ l) (keys ys) t.0), h ys t.1))
      (λ k. (
        all_united (λ z. R y.0 z ≡ Less) (x ∷ xs) ys
            (under x.0 y.0 k, all_weaker (λ z. R x.0 z ≡ Less) (λ z. R y.0 z ≡ Less) (λ z. o.trans y.0 x.0 z (under x.0 y.0 k)) (keys xs) s.0) t.0,
        ascends_into x xs s h ys t.1,
      ))

  pub united_ascend : (xs ys : List Entry) → IsStrictlySortedBy R (keys xs) → IsStrictlySortedBy R (keys ys) → IsStrictlySortedBy R (keys (united by_key one xs ys))
  unfolding IsStrictlySortedBy
  united_ascend [] ys s t = t
  united_ascend (x ∷ xs) ys s t = ascends_into x xs s (λ zs. united_ascend xs zs s.1) ys t

  -- what two together have under a key
  abbrev either : Option X → Option X → Option X
  either None b = b
  either (Some x) None = Some x
  either (Some x) (Some y) = Some (both x y)

  -- a key that is below all keys of a list isn't among them
  none_above : (q k : K) (es : List Entry) → eq_by_cmp R q k ≡ true → AllByRecursion (λ z. R k z ≡ Less) (keys es) → map.find R q es ≡ None
  none_above q k [] e h = refl
  none_above q k (d ∷ es) e h =
      ap (λ b. cond b (Some d.1) (map.find R q es)) (ap is_eq (o.congr q k d.0 (tied (R q k) e) ∙ h.0)) ∙ none_above q k es e h.1
    where
      tied : (r : Ordering) → is_eq r ≡ true → r ≡ Equal
      tied Less e = absurd cc
      tied Equal e = refl
      tied Greater e = absurd cc

  module _ (q : K) where
    abbrev at : List Entry → Option X
    at es = map.find R q es

    alike : (x y : K) → R x y ≡ Equal → eq_by_cmp R q x ≡ eq_by_cmp R q y
    alike x y k = ap is_eq (alike_right o x y q k)

    alone : (a : Option X) → a ≡ either a None
    alone None = refl
    alone (Some x) = refl

    -- at the first of the left
    first : (b : Bool) (v : X) (m n : Option X) → (b ≡ true → n ≡ None) → cond b (Some v) (either m n) ≡ either (cond b (Some v) m) n
    first true v m n none = alone (Some v) ∙ ap (λ w. either (Some v) w) (sym (none refl))
    first false v m n none = refl

    -- at the first of the right
    second : (b : Bool) (v : X) (m n : Option X) → (b ≡ true → m ≡ None) → cond b (Some v) (either m n) ≡ either m (cond b (Some v) n)
    second true v m n none = ap (λ w. either w (Some v)) (sym (none refl))
    second false v m n none = refl

    -- at the first of both
    at_both : (b : Bool) (v w : X) (m n : Option X) → cond b (Some (both v w)) (either m n) ≡ either (cond b (Some v) m) (cond b (Some w) n)
    at_both true v w m n = refl
    at_both false v w m n = refl

    found_into : (x : Entry) (xs : List Entry) → IsStrictlySortedBy R (keys (x ∷ xs)) →
        ((ys : List Entry) → IsStrictlySortedBy R (keys ys) → at (united by_key one xs ys) ≡ either (at xs) (at ys)) →
        (ys : List Entry) → IsStrictlySortedBy R (keys ys) → at (united by_key one (x ∷ xs) ys) ≡ either (at (x ∷ xs)) (at ys)
    unfolding IsStrictlySortedBy
    found_into x xs s h [] t = ap (λ w. cond (eq_by_cmp R q x.0) (Some x.1) w) (h [] t) ∙ first (eq_by_cmp R q x.0) x.1 (at xs) None (λ _. refl)
    found_into x xs s h (y ∷ ys) t =
        picked (λ l. at l ≡ either (at (x ∷ xs)) (at (y ∷ ys))) (R x.0 y.0) _ _ _
        (λ k. ap (λ w. cond (eq_by_cmp R q x.0) (Some x.1) w) (h (y ∷ ys) t)
        ∙ first (eq_by_cmp R q x.0) x.1 (at xs) (at (y ∷ ys))
        (λ e. none_above q x.0 (y ∷ ys) e (k, all_weaker (λ z. R y.0 z ≡ Less) (λ z. R x.0 z ≡ Less) (λ z. o.trans x.0 y.0 z k) (keys ys) t.0)))
        (λ k. ap (λ w. cond (eq_by_cmp R q x.0) (Some (both x.1 y.1)) w) (h ys t.1)
        ∙ at_both (eq_by_cmp R q x.0) x.1 y.1 (at xs) (at ys)
        ∙ ap (λ b. either (at (x ∷ xs)) (cond b (Some y.1) (at ys))) (alike x.0 y.0 k))
        (λ k. ap (λ w. cond (eq_by_cmp R q y.0) (Some y.1) w) (found_into x xs s h ys t.1)
        ∙ second (eq_by_cmp R q y.0) y.1 (at (x ∷ xs)) (at ys)
        (λ e. none_above q y.0 (x ∷ xs) e (under x.0 y.0 k, all_weaker (λ z. R x.0 z ≡ Less) (λ z. R y.0 z ≡ Less) (λ z. o.trans y.0 x.0 z (under x.0 y.0 k)) (keys xs) s.0)))

    pub found_united : (xs ys : List Entry) → IsStrictlySortedBy R (keys xs) → IsStrictlySortedBy R (keys ys) → at (united by_key one xs ys) ≡ either (at xs) (at ys)
    unfolding IsStrictlySortedBy
    found_united [] ys s t = refl
    found_united (x ∷ xs) ys s t = found_into x xs s (λ zs. found_united xs zs s.1) ys t

-- the entries of a union, in order
pub entries_of_union : (m n : Layers) → map.entries (union m n) ≡ entries_united (map.entries m) (map.entries n)
entries_of_union m n =
    are_entries nat_list_cmp_total same_text (union m n) (entries_united (map.entries m) (map.entries n))
    (united_ascend (slice_cmp nat_cmp) nat_list_cmp_total set.union (map.entries m) (map.entries n) (keys_ascend m) (keys_ascend n))
    (λ q. found_united (slice_cmp nat_cmp) nat_list_cmp_total set.union q (map.entries m) (map.entries n) (keys_ascend m) (keys_ascend n)
    ∙ (λ i. either (slice_cmp nat_cmp) nat_list_cmp_total set.union (sym (map.get-entries m q) i) (sym (map.get-entries n q) i))
    ∙ same_both (map.get m q) (map.get n q)
    ∙ sym (get-union nat_list_cmp_total same_text m n q))
  where
    same_both : (a b : Option Features) → either (slice_cmp nat_cmp) nat_list_cmp_total set.union a b ≡ unions.both a b
    same_both None b = refl
    same_both (Some s) None = refl
    same_both (Some s) (Some t) = refl
