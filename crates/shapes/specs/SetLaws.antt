-- The laws of finite sets.
use Rattle.std.specs.Prelude.{◌≡◌, Bool, true, false, cond, ◌||◌, List, [], ◌∷◌, Option, Some, None, is_some, length, refl}
use Rattle.std.specs.Prelude.{map as map_list}
use Rattle.std.proofs.Common.{sym, ◌∙◌, ap, subst, arith}
use Rattle.std.specs.declared.cmp.Ordering.{Ordering}
use Rattle.std.specs.declared.cmp.Ordering.TheVariants.{Less}
use Rattle.std.specs.Ordering.{eq_by_cmp}
use Rattle.std.specs.Cmp.{IsTotalOrder}
use Rattle.std.specs.List.{list_any, AllByRecursion}
use Rattle.std.specs.List.Sorted.{IsStrictlySortedBy}
use Rattle.std.specs.FinMap as map
use Rattle.std.specs.FinMap.{IsAntisymmetric}
use Rattle.shapes.specs.Sets as set

Some-or : (b : Bool) (x : Option (Unit {0})) → is_some (cond b (Some tt) x) ≡ (b || is_some x)
Some-or true x = refl
Some-or false x = refl

abbrev marked : Bool → Option (Unit {0})
marked b = cond b (Some tt) None

marks : (x : Option (Unit {0})) → x ≡ marked (is_some x)
marks None = refl
marks (Some u) = refl

or_swap : (a b c : Bool) → (a || (b || c)) ≡ (b || (a || c))
or_swap true true c = refl
or_swap true false c = refl
or_swap false b c = refl

pub or-false : (a : Bool) → a ≡ (a || false)
or-false true = refl
or-false false = refl

pub or_swaps : (a b : Bool) → (a || b) ≡ (b || a)
or_swaps true true = refl
or_swaps true false = refl
or_swaps false true = refl
or_swaps false false = refl

pub or_groups : (a b c : Bool) → ((a || b) || c) ≡ (a || (b || c))
or_groups true b c = refl
or_groups false b c = refl

pub or_same : (a : Bool) → (a || a) ≡ a
or_same true = refl
or_same false = refl

module _ {K : Type 0} {R : K → K → Ordering} where
  pub contains-items : (s : set.FinSet R) (q : K) → set.contains s q ≡ list_any (eq_by_cmp R q) (set.items s)
  contains-items s q = map.contains_key-keys s q

pub contains-empty : {K : Type 0} (R : K → K → Ordering) (q : K) → set.contains (set.empty {R = R}) q ≡ false
contains-empty R q = ap is_some (map.get-empty R q)

module _ {K : Type 0} {R : K → K → Ordering} (o : IsTotalOrder R) where
  pub contains-insert : (s : set.FinSet R) (k q : K) → set.contains (set.insert s k) q ≡ (eq_by_cmp R q k || set.contains s q)
  contains-insert s k q = ap is_some (map.get-insert o s k tt q) ∙ Some-or _ _

  pub contains-insert_all : (s : set.FinSet R) (ks : List K) (q : K) → set.contains (set.insert_all s ks) q ≡ (set.contains s q || list_any (eq_by_cmp R q) ks)
  contains-insert_all s [] q = or-false _
  contains-insert_all s (k ∷ ks) q =
      contains-insert (set.insert_all s ks) k q ∙ ap (λ b. eq_by_cmp R q k || b) (contains-insert_all s ks q)
      ∙ or_swap (eq_by_cmp R q k) (set.contains s q) (list_any (eq_by_cmp R q) ks)

  pub contains-from_list : (ks : List K) (q : K) → set.contains (set.from_list {R = R} ks) q ≡ list_any (eq_by_cmp R q) ks
  contains-from_list ks q = contains-insert_all set.empty ks q ∙ ap (λ b. b || list_any (eq_by_cmp R q) ks) (contains-empty R q)

  pub contains-union : (s t : set.FinSet R) (q : K) → set.contains (set.union s t) q ≡ (set.contains s q || set.contains t q)
  unfolding set.union
  contains-union s t q = contains-insert_all s (set.items t) q ∙ ap (λ b. set.contains s q || b) (sym (contains-items t q))

  pub same_set : IsAntisymmetric R → (s t : set.FinSet R) → ((q : K) → set.contains s q ≡ set.contains t q) → s ≡ t
  same_set same s t is = map.same_map o same s t (λ q. marks _ ∙ ap marked (is q) ∙ sym (marks _))

  -- a key below all others is put in front
  put_first : {X : Type 0} (k : K) (v : X) (es : List (K × X)) → AllByRecursion (λ y. R k y ≡ Less) (map_list (λ e. e.0) es) → map.put R k v es ≡ (k, v) ∷ es
  put_first k v [] h = refl
  put_first k v (e ∷ es) h = rw h.0 refl

  -- a sorted list of entries is that of its map
  pub entries-from_entries : {X : Type 0} (es : List (K × X)) → IsStrictlySortedBy R (map_list (λ e. e.0) es) → map.entries (map.from_entries {R = R} es) ≡ es
  unfolding IsStrictlySortedBy
  entries-from_entries {X} [] h = no_entries (map.entries (map.empty {X = X} {R = R})) (sym (map.len-entries map.empty) ∙ map.len-empty R X)
    where
      no_entries : (es : List (K × X)) → length es ≡ 0 → es ≡ []
      no_entries [] e = refl
      no_entries (e ∷ es) n = absurd (omega arith)
  entries-from_entries (e ∷ es) h =
      map.entries-insert o (map.from_entries es) e.0 e.1
      ∙ ap (map.put R e.0 e.1) (entries-from_entries es h.1)
      ∙ put_first e.0 e.1 es h.0

  -- the members of the set of a sorted list are that list
  pub items-from_list : (ks : List K) → IsStrictlySortedBy R ks → set.items (set.from_list {R = R} ks) ≡ ks
  items-from_list ks h =
      ap set.items (as_entries ks)
      ∙ ap (map_list (λ e. e.0)) (entries-from_entries (map_list mark ks) (subst (IsStrictlySortedBy R) (sym (unmarked ks)) h))
      ∙ unmarked ks
    where
      mark : K → K × Unit {0}
      mark k = (k, tt)

      unmarked : (ks : List K) → map_list (λ e. e.0) (map_list mark ks) ≡ ks
      unmarked [] = refl
      unmarked (k ∷ ks) = ap (λ t. k ∷ t) (unmarked ks)

      as_entries : (ks : List K) → set.from_list {R = R} ks ≡ map.from_entries (map_list mark ks)
      as_entries [] = refl
      as_entries (k ∷ ks) = ap (λ s. set.insert s k) (as_entries ks)
