-- The members and the entries of a map without another one's features are those of the map, some left out.
use Rattle.std.proofs.Common.{◌≡◌, ℕ, Bool, true, false, cond, List, [], ◌∷◌, refl, sym, ap, subst}
use Rattle.std.specs.Prelude.{map as map_list}
use Rattle.std.specs.List.{AllByRecursion}
use Rattle.std.specs.List.Sorted.{IsStrictlySortedBy}
use Rattle.std.specs.Cmp.Lexicographic.{nat_list_cmp_total, slice_cmp}
use Rattle.std.specs.Ordering.{nat_cmp}
use Rattle.std.specs.declared.cmp.Ordering.{Ordering}
use Rattle.std.specs.declared.cmp.Ordering.TheVariants.{Less}
use Rattle.std.specs.FinMap as map
use Rattle.shapes.specs.Maps.{Features, Layers}
use Rattle.shapes.specs.OrderLaws.{feature_cmp_total}
use Rattle.shapes.specs.Sets as set
use Rattle.shapes.specs.SetLaws.{entries-from_entries, items-from_list}
use Rattle.topo.specs.LayerLaws.Less.{entries_less, features_less, less, without}
use Rattle.topo.proofs.LayerLawsLemmas.Ascending.{items_ascend, keys_ascend}

-- what holds of both holds of what is taken
pub taken : {X : Type 0} (P : X → Type 0) (b : Bool) (x y : X) → P x → P y → P (cond b x y)
taken P true x y h k = h
taken P false x y h k = k

all_without : {A : Type 0} (P : A → Type 0) (p : A → Bool) (xs : List A) → AllByRecursion P xs → AllByRecursion P (without p xs)
all_without P p [] h = tt
all_without P p (x ∷ xs) h = taken (AllByRecursion P) (p x) (without p xs) (x ∷ without p xs) (all_without P p xs h.1) (h.0, all_without P p xs h.1)

-- an ascending list without some of its members ascends
pub without_ascends : {A : Type 0} (R : A → A → Ordering) (p : A → Bool) (xs : List A) → IsStrictlySortedBy R xs → IsStrictlySortedBy R (without p xs)
unfolding IsStrictlySortedBy
without_ascends R p [] h = tt
without_ascends R p (x ∷ xs) h =
    taken (IsStrictlySortedBy R) (p x) (without p xs) (x ∷ without p xs)
    (without_ascends R p xs h.1)
    (all_without (λ y. R x y ≡ Less) p xs h.0, without_ascends R p xs h.1)

-- the features of a layer without those of another, in order
pub items_of_less : (s t : Features) → set.items (features_less s t) ≡ without (set.contains t) (set.items s)
items_of_less s t = items-from_list feature_cmp_total (without (set.contains t) (set.items s)) (without_ascends _ (set.contains t) (set.items s) (items_ascend s))

names_stay : (r : Layers) (es : List (List ℕ × Features)) → map_list (λ e. e.0) (entries_less r es) ≡ map_list (λ e. e.0) es
names_stay r [] = refl
names_stay r (e ∷ es) = ap (λ ks. e.0 ∷ ks) (names_stay r es)

-- the layers of a map without another one's features, in order
pub entries_of_less : (m r : Layers) → map.entries (less m r) ≡ entries_less r (map.entries m)
unfolding less
entries_of_less m r =
    entries-from_entries nat_list_cmp_total (entries_less r (map.entries m))
    (subst (IsStrictlySortedBy (slice_cmp nat_cmp)) (sym (names_stay r (map.entries m))) (keys_ascend m))
