-- What is left of a map when a layer is taken out, and what it gives when one is put in its place.
use Rattle.std.proofs.Common.{◌≡◌, ℕ, List, Bool, true, false, ◌||◌, cond, Option, Some, None, refl, sym, ◌∙◌, ap, string_bytes, option_map}
use Rattle.std.specs.Ordering.{nat_cmp, eq_by_cmp}
use Rattle.std.specs.Str.{bytes_eq}
use Rattle.std.specs.String.{string_cmp}
use Rattle.std.specs.Cmp.Lexicographic.{nat_list_cmp_total, slice_cmp}
use Rattle.std.specs.declared.string.String.{String}
use Rattle.std.specs.declared.alloc.Global.{Global}
use Rattle.std.specs.BTreeSet as sorted
use Rattle.std.specs.BTreeSet.{BTreeSet}
use Rattle.std.specs.BTreeMap.{BTreeMap, UpdatesBy}
use Rattle.std.proofs.lemmas.Map.Text.{btree_map_updates_text}
use Rattle.std.specs.FinMap as map
use Rattle.shapes.specs.Sets as set
use Rattle.shapes.specs.SetLaws.{contains-union, same_set}
use Rattle.shapes.specs.Order.{feature_cmp}
use Rattle.shapes.specs.OrderLaws.{feature_cmp_total, same_feature, same_text}
use Rattle.shapes.specs.Maps.{Features, set_of, features_at, with_features}
use Rattle.shapes.specs.Inside.{layers_of, look, features_of, features_if, AreNamed}
use Rattle.shapes.specs.declared.layer.FeatureLayer.{FeatureLayer}
use Rattle.shapes.specs.declared.feature.Feature.{Feature}
use Rattle.shapes.proofs.MapLemmas.{contains-set_of, get-layers, same_bytes}
use Rattle.shapes.proofs.UnionLemmas.{features_found}

abbrev Tree : Type 0
Tree = BTreeMap (String Global) FeatureLayer

-- the set of what is appended to a set
pub union_appended : (s t n : BTreeSet Feature) → sorted.InsertsAll feature_cmp s t.keys n → set_of n ≡ set.union (set_of s) (set_of t)
union_appended s t n h =
    same_set feature_cmp_total same_feature _ _ (λ q.
    contains-set_of n q ∙ h.0 q
    ∙ (λ i. sym (contains-set_of s q) i || sym (contains-set_of t q) i)
    ∙ sym (contains-union feature_cmp_total (set_of s) (set_of t) q))

-- a layer is taken out and another one put in its place
pub put_back : (m r : Tree) (bs : List ℕ) (fs : Features) → UpdatesBy string_cmp (λ k. slice_cmp nat_cmp bs (string_bytes k)) m r None
    → map.insert (layers_of r.entries) bs fs ≡ map.insert (layers_of m.entries) bs fs
put_back m r bs fs h =
    map.same_map nat_list_cmp_total same_text _ _ (λ q.
    map.get-insert nat_list_cmp_total (layers_of r.entries) bs fs q
    ∙ ap (cond (eq_by_cmp (slice_cmp nat_cmp) q bs) (Some fs)) (get-layers r.entries q ∙ ap (option_map features_of) (btree_map_updates_text bs m r None h q))
    ∙ ap (λ b. cond (eq_by_cmp (slice_cmp nat_cmp) q bs) (Some fs) (option_map features_of (cond b None (look q m.entries)))) (same_bytes bs q)
    ∙ hidden (eq_by_cmp (slice_cmp nat_cmp) q bs) (look q m.entries)
    ∙ ap (cond (eq_by_cmp (slice_cmp nat_cmp) q bs) (Some fs)) (sym (get-layers m.entries q))
    ∙ sym (map.get-insert nat_list_cmp_total (layers_of m.entries) bs fs q))
  where
    hidden : (b : Bool) (o : Option FeatureLayer) → cond b (Some fs) (option_map features_of (cond b None o)) ≡ cond b (Some fs) (option_map features_of o)
    hidden true o = refl
    hidden false o = refl

-- features put beside those that were taken out
pub put_beside : (m r n : Tree) (bs k : List ℕ) (fs whole : Features) (o : Option FeatureLayer) → bs ≡ k → UpdatesBy string_cmp (λ k. slice_cmp nat_cmp bs (string_bytes k)) m r None
    → o ≡ look bs m.entries → whole ≡ set.union fs (features_if o) → layers_of n.entries ≡ map.insert (layers_of r.entries) k whole
    → layers_of n.entries ≡ with_features (layers_of m.entries) k fs
put_beside m r n bs k fs whole o same h found is made =
    made ∙ (λ i. map.insert (layers_of r.entries) (sym same i) ((is ∙ ap (set.union fs) (features_found m.entries bs o found)) i))
    ∙ put_back m r bs (set.union fs (features_at (layers_of m.entries) bs)) h
    ∙ ap (λ q. with_features (layers_of m.entries) q fs) same

-- what is left keeps its names
pub names_left : (m r : Tree) (bs : List ℕ) → UpdatesBy string_cmp (λ k. slice_cmp nat_cmp bs (string_bytes k)) m r None → AreNamed m.entries → AreNamed r.entries
names_left m r bs h named q l found = kept (bytes_eq bs q) (sym (btree_map_updates_text bs m r None h q) ∙ found)
  where
    kept : (b : Bool) → cond b None (look q m.entries) ≡ Some l → l.name.text ≡ q
    kept true e = cc
    kept false e = named q l e
