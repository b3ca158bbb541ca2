-- The members of a set and the entries of a map are the one ascending list that answers as the set or the map does.
use Rattle.std.proofs.Common.{◌≡◌, T, List, [], ◌∷◌, refl, sym, ap, ◌∙◌}
use Rattle.std.specs.Prelude.{map as map_list}
use Rattle.std.specs.List.{list_any, AllByRecursion}
use Rattle.std.specs.List.Sorted.{IsStrictlySortedBy}
use Rattle.std.specs.Ordering.{eq_by_cmp, is_lt}
use Rattle.std.specs.Cmp.{IsTotalOrder}
use Rattle.std.specs.declared.cmp.Ordering.{Ordering}
use Rattle.std.specs.declared.cmp.Ordering.TheVariants.{Less, Equal, Greater}
use Rattle.std.specs.FinMap as map
use Rattle.std.specs.FinMap.{IsAntisymmetric}
use Rattle.shapes.specs.Sets as set
use Rattle.shapes.specs.SetLaws.{contains-from_list, entries-from_entries, items-from_list, same_set}
use Rattle.shapes.proofs.Entries.{left, right}

less : (o : Ordering) → T (is_lt o) → o ≡ Less
less Less h = refl
less Equal h = absurd h
less Greater h = absurd h

module _ {K X : Type 0} (R : K → K → Ordering) where
  below : (k : K) (es : List (K × X)) → T (map.Entries.below_all R k es) → AllByRecursion (λ y. R k y ≡ Less) (map_list (λ e. e.0) es)
  below k [] h = tt
  below k (e ∷ es) h = (
    less (R k e.0) (left (is_lt (R k e.0)) (map.Entries.below_all R k es) h),
    below k es (right (is_lt (R k e.0)) (map.Entries.below_all R k es) h),
  )

  ascending : (es : List (K × X)) → T (map.is_sorted R es) → IsStrictlySortedBy R (map_list (λ e. e.0) es)
  unfolding IsStrictlySortedBy
  ascending [] h = tt
  ascending (e ∷ es) h = (
    below e.0 es (left (map.Entries.below_all R e.0 es) (map.is_sorted R es) h),
    ascending es (right (map.Entries.below_all R e.0 es) (map.is_sorted R es) h),
  )

module _ {K X : Type 0} {R : K → K → Ordering} where
  -- each key of a map is below those after it
  pub keys_ascend : (m : map.FinMap R X) → IsStrictlySortedBy R (map.keys m)
  keys_ascend m = ascending R (map.entries m) (map.entries_sorted m)

-- each member of a set is below those after it
pub items_ascend : {K : Type 0} {R : K → K → Ordering} (s : set.FinSet R) → IsStrictlySortedBy R (set.items s)
items_ascend s = keys_ascend s

module _ {K : Type 0} {R : K → K → Ordering} (o : IsTotalOrder R) (same : IsAntisymmetric R) where
  -- an ascending list that holds what the set holds
  pub are_items : (s : set.FinSet R) (ks : List K) → IsStrictlySortedBy R ks → ((q : K) → list_any (eq_by_cmp R q) ks ≡ set.contains s q) → set.items s ≡ ks
  are_items s ks sorted alike =
      ap set.items (sym (same_set o same (set.from_list ks) s (λ q. contains-from_list o ks q ∙ alike q))) ∙ items-from_list o ks sorted

  -- an ascending list of entries in which each key is found with what the map has there
  pub are_entries : {X : Type 0} (m : map.FinMap R X) (es : List (K × X)) → IsStrictlySortedBy R (map_list (λ e. e.0) es) →
      ((q : K) → map.find R q es ≡ map.get m q) → map.entries m ≡ es
  are_entries m es sorted alike =
      ap map.entries (sym (map.same_map o same (map.from_entries es) m (λ q. map.get-from_entries o es q ∙ alike q))) ∙ entries-from_entries o es sorted
