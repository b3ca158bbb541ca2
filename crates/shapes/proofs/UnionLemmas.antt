-- What the union of two feature maps holds.
use Rattle.std.proofs.Common.{◌≡◌, ℕ, List, ◌∷◌, true, false, ◌||◌, cond, Option, Some, None, refl, sym, ◌∙◌, ap, string_bytes, option_map, is_some}
use Rattle.std.specs.Prelude.{unwrap_or}
use Rattle.std.specs.Option.{option_or}
use Rattle.std.specs.Ordering.{nat_cmp, is_eq}
use Rattle.std.specs.Cmp.Lexicographic.{nat_list_cmp_total, slice_cmp}
use Rattle.std.specs.declared.cmp.Ordering.TheVariants.{Less, Equal, Greater}
use Rattle.std.specs.declared.string.String.{String}
use Rattle.std.specs.declared.alloc.Global.{Global}
use Rattle.std.specs.BTreeSet as sorted
use Rattle.std.specs.BTreeSet.{BTreeSet}
use Rattle.std.specs.FinMap as map
use Rattle.shapes.specs.Sets as set
use Rattle.shapes.specs.SetLaws.{contains-union, contains-empty, same_set, or-false, contains-from_list}
use Rattle.shapes.specs.Union.{both, union, get-union}
use Rattle.shapes.specs.Order.{feature_cmp}
use Rattle.shapes.specs.OrderLaws.{feature_cmp_total, same_feature, same_text}
use Rattle.shapes.specs.Maps.{Features, Layers, set_of, features_at}
use Rattle.shapes.specs.Inside.{layers_of, look, features_of, features_if, united_at}
use Rattle.shapes.specs.declared.layer.FeatureLayer.{FeatureLayer}
use Rattle.shapes.specs.declared.feature.Feature.{Feature}
use Rattle.shapes.proofs.MapLemmas.{Entries, contains-set_of, get-layers}

pub set_union_empty : (s : Features) → set.union s set.empty ≡ s
set_union_empty s =
    same_set feature_cmp_total same_feature _ _ (λ q.
    contains-union feature_cmp_total s set.empty q ∙ ap (λ b. set.contains s q || b) (contains-empty feature_cmp q)
    ∙ sym (or-false (set.contains s q)))

-- the set of what was collected
pub set_collected : (n : BTreeSet Feature) (ks : List Feature) → sorted.IsFromIterResult feature_cmp ks n → set_of n ≡ set.from_list ks
set_collected n ks made =
    same_set feature_cmp_total same_feature _ _ (λ q. contains-set_of n q ∙ made.0 q ∙ sym (contains-from_list feature_cmp_total ks q))

-- the set of a merged list
pub union_made : (s t : BTreeSet Feature) (n : Features) (ks : List Feature) → sorted.IsUnion feature_cmp s t ks → n ≡ set.from_list ks → n ≡ set.union (set_of s) (set_of t)
union_made s t n ks merged made =
    made ∙ same_set feature_cmp_total same_feature _ _ (λ q.
    contains-from_list feature_cmp_total ks q ∙ merged q
    ∙ (λ i. sym (contains-set_of s q) i || sym (contains-set_of t q) i)
    ∙ sym (contains-union feature_cmp_total (set_of s) (set_of t) q))

-- a layer that m has already
pub united_skip : (n m : Layers) (k : String Global) (l : FeatureLayer) (es : Entries) → map.contains_key m (string_bytes k) ≡ true → (q : List ℕ) → united_at n m ((k, l) ∷ es) q ≡ united_at n m es q
united_skip n m k l es there q =
    elim (slice_cmp nat_cmp q (string_bytes k)) as (λ o. slice_cmp nat_cmp q (string_bytes k) ≡ o → option_or (map.get m q) (option_map at (cond (is_eq o) (Some l) (look q es))) ≡ united_at n m es q) [
      | Less ↦ λ _. refl
      | Equal ↦ λ e. first (map.get m q) _ _ (ap (map.contains_key m) (same_text q (string_bytes k) e) ∙ there)
      | Greater ↦ λ _. refl
    ] refl
  where
    at : FeatureLayer → Features
    at x = set.union (features_of x) (features_at n q)

    first : (o a b : Option Features) → is_some o ≡ true → option_or o a ≡ option_or o b
    first None a b e = cc
    first (Some s) a b e = refl

-- a layer that m lacked
pub united_put : (n m : Layers) (k : String Global) (l : FeatureLayer) (es : Entries) → map.contains_key m (string_bytes k) ≡ false → (q : List ℕ)
    → united_at n (map.insert m (string_bytes k) (set.union (features_of l) (features_at n (string_bytes k)))) es q ≡ united_at n m ((k, l) ∷ es) q
united_put n m k l es absent q =
    ap (λ o. option_or o (option_map at (look q es))) (map.get-insert nat_list_cmp_total m (string_bytes k) (set.union (features_of l) (features_at n (string_bytes k))) q)
    ∙ elim (slice_cmp nat_cmp q (string_bytes k)) as (λ o. slice_cmp nat_cmp q (string_bytes k) ≡ o → option_or (cond (is_eq o) (Some (set.union (features_of l) (features_at n (string_bytes k)))) (map.get m q)) (option_map at (look q es)) ≡ option_or (map.get m q) (option_map at (cond (is_eq o) (Some l) (look q es)))) [
      | Less ↦ λ _. refl
      | Equal ↦ λ e. here e
      | Greater ↦ λ _. refl
    ] refl
  where
    at : FeatureLayer → Features
    at x = set.union (features_of x) (features_at n q)

    none : (o : Option Features) → is_some o ≡ false → (a : Option Features) → a ≡ option_or o a
    none None e a = refl
    none (Some s) e a = cc

    here : slice_cmp nat_cmp q (string_bytes k) ≡ Equal → Some (set.union (features_of l) (features_at n (string_bytes k))) ≡ option_or (map.get m q) (Some (at l))
    here e =
        let same = same_text q (string_bytes k) e in
        ap (λ b. Some (set.union (features_of l) (features_at n b))) (sym same)
        ∙ none (map.get m q) (ap (map.contains_key m) same ∙ absent) (Some (at l))

-- both maps' layers put in turn are their union
pub united_twice : (es fs : Entries) (u v : Layers)
    → ((q : List ℕ) → map.get u q ≡ united_at (layers_of fs) map.empty es q) → ((q : List ℕ) → map.get v q ≡ united_at (layers_of es) u fs q)
    → v ≡ union (layers_of es) (layers_of fs)
united_twice es fs u v first second =
    map.same_map nat_list_cmp_total same_text _ _ (λ q.
    second q
    ∙ ap (λ o. option_or o (option_map (λ l. set.union (features_of l) (features_at (layers_of es) q)) (look q fs)))
    (first q ∙ ap (λ o. option_or o (option_map (λ l. set.union (features_of l) (features_at (layers_of fs) q)) (look q es))) (map.get-empty (slice_cmp nat_cmp) q))
    ∙ cases (map.get (layers_of es) q) (map.get (layers_of fs) q) (look q es) (look q fs) (get-layers es q) (get-layers fs q)
    ∙ sym (get-union nat_list_cmp_total same_text (layers_of es) (layers_of fs) q))
  where
    at : Option Features → FeatureLayer → Features
    at o l = set.union (features_of l) (unwrap_or o set.empty)

    cases : (s t : Option Features) (a b : Option FeatureLayer) → s ≡ option_map features_of a → t ≡ option_map features_of b → option_or (option_or None (option_map (at t) a)) (option_map (at s) b) ≡ both s t
    cases s t None None e f = cc
    cases s t (Some a) None e f = ap (λ o. Some (set.union (features_of a) (unwrap_or o set.empty))) f ∙ ap Some (set_union_empty (features_of a)) ∙ (λ i. both (sym e i) (sym f i))
    cases s t None (Some b) e f = ap (λ o. Some (set.union (features_of b) (unwrap_or o set.empty))) e ∙ ap Some (set_union_empty (features_of b)) ∙ (λ i. both (sym e i) (sym f i))
    cases s t (Some a) (Some b) e f = ap (λ o. Some (set.union (features_of a) (unwrap_or o set.empty))) f ∙ (λ i. both (sym e i) (sym f i))

-- what a look-up in the other map lends
pub features_found : (n : Entries) (q : List ℕ) (o : Option FeatureLayer) → o ≡ look q n → features_if o ≡ features_at (layers_of n) q
features_found n q o e = given o ∙ ap (λ x. unwrap_or (option_map features_of x) set.empty) e ∙ ap (λ x. unwrap_or x set.empty) (sym (get-layers n q))
  where
    given : (x : Option FeatureLayer) → features_if x ≡ unwrap_or (option_map features_of x) set.empty
    given None = refl
    given (Some l) = refl

pub no_more : (o : Option Features) → o ≡ option_or o None
no_more None = refl
no_more (Some s) = refl
