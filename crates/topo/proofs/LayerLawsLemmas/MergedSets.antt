-- The members of the union of two sets are those of both, merged.
use Rattle.std.proofs.Common.{◌≡◌, Bool, true, false, ◌||◌, List, [], ◌∷◌, refl, sym, ap, ◌∙◌}
use Rattle.std.specs.List.{list_any, AllByRecursion}
use Rattle.std.specs.List.Sorted.{IsStrictlySortedBy}
use Rattle.std.specs.Ordering.{eq_by_cmp, is_eq, ordering_reverse}
use Rattle.std.specs.Cmp.{IsTotalOrder, alike_right}
use Rattle.std.specs.declared.cmp.Ordering.{Ordering}
use Rattle.std.specs.declared.cmp.Ordering.TheVariants.{Less, Equal, Greater}
use Rattle.std.specs.FinMap.{IsAntisymmetric}
use Rattle.shapes.specs.Sets as set
use Rattle.shapes.specs.SetLaws.{contains-items, contains-union}
use Rattle.topo.specs.LayerLaws.Cuts.{by_order, merged, merged_into}
use Rattle.topo.proofs.LayerLawsLemmas.Ascending.{are_items, items_ascend}

-- what holds of what each order picks holds of what is picked
pub picked : {A : Type 0} (P : A → Type 0) (r : Ordering) (x y z : A) → (r ≡ Less → P x) → (r ≡ Equal → P y) → (r ≡ Greater → P z) → P (by_order r x y z)
picked P Less x y z a b c = a refl
picked P Equal x y z a b c = b refl
picked P Greater x y z a b c = c refl

pub all_weaker : {A : Type 0} (P Q : A → Type 0) → ((x : A) → P x → Q x) → (xs : List A) → AllByRecursion P xs → AllByRecursion Q xs
all_weaker P Q f [] h = tt
all_weaker P Q f (x ∷ xs) h = (f x h.0, all_weaker P Q f xs h.1)

pub or_first : (a b c : Bool) → (a || (b || c)) ≡ ((a || b) || c)
or_first true b c = refl
or_first false b c = refl

pub or_last : (a b c : Bool) → (a || (b || c)) ≡ (b || (a || c))
or_last true true c = refl
or_last true false c = refl
or_last false b c = refl

pub or_once : (a b c : Bool) → (a || (b || c)) ≡ ((a || b) || (a || c))
or_once true b c = refl
or_once false b c = refl

module _ {K : Type 0} (R : K → K → Ordering) where
  module _ (P : K → Type 0) where
    all_into : (x : K) (rest : List K → List K) → P x → ((ys : List K) → AllByRecursion P ys → AllByRecursion P (rest ys)) →
        (ys : List K) → AllByRecursion P ys → AllByRecursion P (merged_into R x rest ys)
    all_into x rest p h [] k = (p, h [] k)
    all_into x rest p h (y ∷ ys) k =
        picked (AllByRecursion P) (R x y) _ _ _ (λ _. (p, h (y ∷ ys) k)) (λ _. (p, h ys k.1)) (λ _. (k.0, all_into x rest p h ys k.1))

    all_merged : (xs ys : List K) → AllByRecursion P xs → AllByRecursion P ys → AllByRecursion P (merged R xs ys)
    all_merged [] ys h k = k
    all_merged (x ∷ xs) ys h k = all_into x (merged R xs) h.0 (λ zs. all_merged xs zs h.1) ys k

  module _ (o : IsTotalOrder R) where
    under : (x y : K) → R x y ≡ Greater → R y x ≡ Less
    under x y h = o.antisymm y x ∙ ap ordering_reverse h

    ascends_into : (x : K) (xs : List K) → IsStrictlySortedBy R (x ∷ xs) → ((ys : List K) → IsStrictlySortedBy R ys → IsStrictlySortedBy R (merged R xs ys)) →
        (ys : List K) → IsStrictlySortedBy R ys → IsStrictlySortedBy R (merged R (x ∷ xs) ys)
    unfolding IsStrictlySortedBy
    ascends_into x xs s h [] t = (all_merged (λ z. R x z ≡ Less) xs [] s.0 tt, h [] t)
    ascends_into x xs s h (y ∷ ys) t =
        picked (IsStrictlySortedBy R) (R x y) _ _ _
        (λ k. (all_merged (λ z. R x z ≡ Less) xs (y ∷ ys) s.0 (k, all_weaker (λ z. R y z ≡ Less) (λ z. R x z ≡ Less) (λ z. o.trans x y z k) ys t.0), h (y ∷ ys) t))
        (λ k. (all_merged (λ z. R x z ≡ Less) xs ys s.0 (all_weaker (λ z. R y z ≡ Less) (λ z. R x z ≡ Less) (λ z l. o.congr x y z k ∙ l) ys t.0), h ys t.1))
        (λ k. (
          all_merged (λ z. R y z ≡ Less) (x ∷ xs) ys (under x y k, all_weaker (λ z. R x z ≡ Less) (λ z. R y z ≡ Less) (λ z. o.trans y x z (under x y k)) xs s.0) t.0,
          ascends_into x xs s h ys t.1,
        ))

    -- the merge of two ascending lists ascends
    pub merged_ascend : (xs ys : List K) → IsStrictlySortedBy R xs → IsStrictlySortedBy R ys → IsStrictlySortedBy R (merged R xs ys)
    unfolding IsStrictlySortedBy
    merged_ascend [] ys s t = t
    merged_ascend (x ∷ xs) ys s t = ascends_into x xs s (λ zs. merged_ascend xs zs s.1) ys t

    module _ (q : K) where
      abbrev has : List K → Bool
      has = list_any (eq_by_cmp R q)

      alike : (x y : K) → R x y ≡ Equal → eq_by_cmp R q x ≡ eq_by_cmp R q y
      alike x y k = ap is_eq (alike_right o x y q k)

      has_into : (x : K) (xs : List K) → ((ys : List K) → has (merged R xs ys) ≡ (has xs || has ys)) → (ys : List K) → has (merged R (x ∷ xs) ys) ≡ (has (x ∷ xs) || has ys)
      has_into x xs h [] = ap (λ b. eq_by_cmp R q x || b) (h []) ∙ or_first (eq_by_cmp R q x) (has xs) false
      has_into x xs h (y ∷ ys) =
          picked (λ l. has l ≡ (has (x ∷ xs) || has (y ∷ ys))) (R x y) _ _ _
          (λ k. ap (λ b. eq_by_cmp R q x || b) (h (y ∷ ys)) ∙ or_first (eq_by_cmp R q x) (has xs) (has (y ∷ ys)))
          (λ k. ap (λ b. eq_by_cmp R q x || b) (h ys) ∙ or_once (eq_by_cmp R q x) (has xs) (has ys) ∙ ap (λ b. has (x ∷ xs) || (b || has ys)) (alike x y k))
          (λ k. ap (λ b. eq_by_cmp R q y || b) (has_into x xs h ys) ∙ or_last (eq_by_cmp R q y) (has (x ∷ xs)) (has ys))

      -- the merge holds what either holds
      pub has_merged : (xs ys : List K) → has (merged R xs ys) ≡ (has xs || has ys)
      has_merged [] ys = refl
      has_merged (x ∷ xs) ys = has_into x xs (has_merged xs) ys

-- the members of a union, in order
pub items_of_union : {K : Type 0} {R : K → K → Ordering} (o : IsTotalOrder R) (same : IsAntisymmetric R) (s t : set.FinSet R) →
    set.items (set.union s t) ≡ merged R (set.items s) (set.items t)
items_of_union {R = R} o same s t =
    are_items o same (set.union s t) (merged R (set.items s) (set.items t)) (merged_ascend R o (set.items s) (set.items t) (items_ascend s) (items_ascend t))
    (λ q. has_merged R o q (set.items s) (set.items t)
    ∙ (λ i. sym (contains-items s q) i || sym (contains-items t q) i)
    ∙ sym (contains-union o s t q))
