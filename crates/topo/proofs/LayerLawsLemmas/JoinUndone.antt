-- What a map without another one's features holds: what a join brings in, taken away again, leaves the map that was there, and the other way round.
use Rattle.std.proofs.Common.{◌≡◌, ℕ, Bool, true, false, cond, not, ◌&&◌, ◌||◌, List, [], ◌∷◌, Option, Some, None, refl, sym, ap, ◌∙◌}
use Rattle.std.specs.Prelude.{is_some, unwrap_or}
use Rattle.std.specs.Option.{option_map}
use Rattle.std.specs.List.{list_any}
use Rattle.std.specs.Ordering.{eq_by_cmp, is_eq, nat_cmp}
use Rattle.std.specs.Cmp.Lexicographic.{nat_list_cmp_total, slice_cmp}
use Rattle.std.specs.declared.cmp.Ordering.{Ordering}
use Rattle.std.specs.declared.cmp.Ordering.TheVariants.{Less, Equal, Greater}
use Rattle.std.specs.FinMap as map
use Rattle.shapes.specs.Maps.{Features, Layers, features_at}
use Rattle.shapes.specs.Order.{feature_cmp}
use Rattle.shapes.specs.OrderLaws.{feature_cmp_total, feature_tied, same_feature, same_text}
use Rattle.shapes.specs.Sets as set
use Rattle.shapes.specs.SetLaws.{contains-empty, contains-from_list, contains-items, contains-union, same_set}
use Rattle.shapes.specs.Union.{both, union, get-union}
use Rattle.shapes.specs.declared.feature.Feature.{Feature}
use Rattle.topo.specs.LayerLaws.Less.{IsApart, entries_less, features_less, less, without}

-- a list without some members holds the others
has_without : (p : Feature → Bool) (q : Feature) (xs : List Feature) →
    list_any (eq_by_cmp feature_cmp q) (without p xs) ≡ (list_any (eq_by_cmp feature_cmp q) xs && not (p q))
has_without p q [] = refl
has_without p q (x ∷ xs) = go (p x) refl (eq_by_cmp feature_cmp q x) refl (has_without p q xs)
  where
    under : List Feature → Bool
    under = list_any (eq_by_cmp feature_cmp q)

    none : (a b : Bool) → b ≡ true → (a && not b) ≡ false
    none true true e = refl
    none true false e = absurd cc
    none false b e = refl

    go : (a : Bool) → p x ≡ a → (b : Bool) → eq_by_cmp feature_cmp q x ≡ b → under (without p xs) ≡ (under xs && not (p q)) →
        under (cond a (without p xs) (x ∷ without p xs)) ≡ ((b || under xs) && not (p q))
    go true e true t ih =
        let same : p q ≡ true = ap p ((feature_tied q x).0 t) ∙ e in
        ih ∙ none (under xs) (p q) same ∙ ap not (sym same)
    go true e false t ih = ih
    go false e true t ih = ap (λ b. b || under (without p xs)) t ∙ ap not (sym (ap p ((feature_tied q x).0 t) ∙ e))
    go false e false t ih = ap (λ b. b || under (without p xs)) t ∙ ih

-- what the one set holds and the other doesn't
pub contains-less : (s t : Features) (f : Feature) → set.contains (features_less s t) f ≡ (set.contains s f && not (set.contains t f))
contains-less s t f =
    contains-from_list feature_cmp_total (without (set.contains t) (set.items s)) f
    ∙ has_without (set.contains t) f (set.items s)
    ∙ ap (λ b. b && not (set.contains t f)) (sym (contains-items s f))

-- a set without nothing
less_nothing : (s : Features) → features_less s set.empty ≡ s
less_nothing s = same_set feature_cmp_total same_feature (features_less s set.empty) s
    (λ f. contains-less s set.empty f ∙ ap (λ b. set.contains s f && not b) (contains-empty feature_cmp f) ∙ and_true (set.contains s f))
  where
    and_true : (a : Bool) → (a && true) ≡ a
    and_true true = refl
    and_true false = refl

-- a union without the one, where both hold nothing together
less_union : (s t : Features) → ((f : Feature) → set.contains t f ≡ true → set.contains s f ≡ false) → features_less (set.union s t) t ≡ s
less_union s t apart = same_set feature_cmp_total same_feature (features_less (set.union s t) t) s
    (λ f. contains-less (set.union s t) t f
    ∙ ap (λ b. b && not (set.contains t f)) (contains-union feature_cmp_total s t f)
    ∙ alone (set.contains s f) (set.contains t f) (apart f))
  where
    alone : (a b : Bool) → (b ≡ true → a ≡ false) → ((a || b) && not b) ≡ a
    alone true true k = sym (k refl)
    alone true false k = refl
    alone false true k = refl
    alone false false k = refl

-- the features under a name, if it is a layer, without those of r
found_less : (r : Layers) (q : List ℕ) (es : List (List ℕ × Features)) →
    map.find (slice_cmp nat_cmp) q (entries_less r es) ≡ option_map (λ s. features_less s (features_at r q)) (map.find (slice_cmp nat_cmp) q es)
found_less r q [] = refl
found_less r q (e ∷ es) = go (map.find (slice_cmp nat_cmp) q es) (slice_cmp nat_cmp q e.0) refl (found_less r q es)
  where
    go : {w : Option Features} (v : Option Features) (o : Ordering) → slice_cmp nat_cmp q e.0 ≡ o → w ≡ option_map (λ s. features_less s (features_at r q)) v →
        cond (is_eq o) (Some (features_less e.1 (features_at r e.0))) w ≡ option_map (λ s. features_less s (features_at r q)) (cond (is_eq o) (Some e.1) v)
    go v Less k ih = ih
    go v Equal k ih = ap (λ n. Some (features_less e.1 (features_at r n))) (sym (same_text q e.0 k))
    go v Greater k ih = ih

-- what a map without another one's features has under a name
pub get-less : (m r : Layers) (q : List ℕ) → map.get (less m r) q ≡ option_map (λ s. features_less s (features_at r q)) (map.get m q)
unfolding less
get-less m r q =
    map.get-from_entries nat_list_cmp_total (entries_less r (map.entries m)) q
    ∙ found_less r q (map.entries m)
    ∙ ap (option_map (λ s. features_less s (features_at r q))) (sym (map.get-entries m q))

-- a join is undone
pub join_undone : (m r : Layers) → IsApart m r → less (union m r) r ≡ m
join_undone m r apart = map.same_map nat_list_cmp_total same_text (less (union m r) r) m
    (λ q. get-less (union m r) r q
    ∙ ap (option_map (λ s. features_less s (features_at r q))) (get-union nat_list_cmp_total same_text m r q)
    ∙ go (map.get m q) (map.get r q) (apart.names q) (apart.features q))
  where
    go : (a b : Option Features) → (is_some b ≡ true → is_some a ≡ true) →
        ((f : Feature) → set.contains (unwrap_or b set.empty) f ≡ true → set.contains (unwrap_or a set.empty) f ≡ false) →
        option_map (λ s. features_less s (unwrap_or b set.empty)) (both a b) ≡ a
    go None None names k = refl
    go None (Some t) names k = let no : false ≡ true = names refl in absurd cc
    go (Some s) None names k = ap Some (less_nothing s)
    go (Some s) (Some t) names k = ap Some (less_union s t k)
