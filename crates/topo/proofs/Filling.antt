-- A map that is filled layer by layer.
use Rattle.std.proofs.Common.{◌≡◌, ℕ, cond, T, List, [], ◌∷◌, ◌++◌, inl, refl, sym, ap, ◌∙◌, subst, append_assoc, append-nil, Some, None}
use Rattle.std.specs.Prelude.{unwrap_or}
use Rattle.std.specs.Cmp.Lexicographic.{slice_cmp, nat_list_cmp_total}
use Rattle.std.specs.Ordering.{nat_cmp}
use Rattle.std.specs.FinMap as map
use Rattle.theory.proofs.Lists.{Has-append_right}
use Rattle.shapes.specs.Maps.{Layers, Features, with_features}
use Rattle.shapes.specs.OrderLaws.{feature_cmp_total, same_feature, same_text}
use Rattle.shapes.specs.Sets as set
use Rattle.shapes.specs.SetLaws.{contains-from_list, contains-items, same_set}
use Rattle.shapes.proofs.UnionLemmas.{set_union_empty}
use Rattle.shapes.proofs.Entries.{above, apart, left, right}

abbrev Name : Type 0
Name = List ℕ

-- a map with these layers, too
abbrev pub with_entries : Layers → List (Name × Features) → Layers
with_entries m [] = m
with_entries m (e ∷ es) = with_entries (with_features m e.0 e.1) es

-- the members of a set make it
pub all_members : (s : Features) → set.from_list (set.items s) ≡ s
all_members s =
    same_set feature_cmp_total same_feature _ _ (λ q. contains-from_list feature_cmp_total (set.items s) q ∙ sym (contains-items s q))

-- a new layer, filled
layer_put : (m : Layers) (k : Name) (s : Features) → map.get m k ≡ None → with_features m k s ≡ map.insert m k s
layer_put m k s new = ap (λ o. map.insert m k (set.union s (unwrap_or o set.empty))) new ∙ ap (map.insert m k) (set_union_empty s)

-- in a sorted list the key of an entry is none of those before it
before : (done : List (Name × Features)) (e : Name × Features) (es : List (Name × Features)) → T (map.is_sorted (slice_cmp nat_cmp) (done ++ (e ∷ es))) →
    map.find (slice_cmp nat_cmp) e.0 done ≡ None
before [] e es s = refl
before (d ∷ done) e es s =
    ap (λ b. cond b (Some d.1) (map.find (slice_cmp nat_cmp) e.0 done))
    (apart (slice_cmp nat_cmp) nat_list_cmp_total d.0 e.0
    (above (slice_cmp nat_cmp) nat_list_cmp_total d.0 (done ++ (e ∷ es)) e
    (left (map.Entries.below_all (slice_cmp nat_cmp) d.0 (done ++ (e ∷ es))) (map.is_sorted (slice_cmp nat_cmp) (done ++ (e ∷ es))) s)
    (Has-append_right e done (e ∷ es) (inl refl))))
    ∙ before done e es (right (map.Entries.below_all (slice_cmp nat_cmp) d.0 (done ++ (e ∷ es))) (map.is_sorted (slice_cmp nat_cmp) (done ++ (e ∷ es))) s)

entries_put : (done es : List (Name × Features)) → T (map.is_sorted (slice_cmp nat_cmp) (done ++ es)) →
    with_entries (map.from_entries done) es ≡ map.from_entries (done ++ es)
entries_put done [] s = ap map.from_entries (sym (append-nil done))
entries_put done (e ∷ es) s =
    let new = before done e es s in
    ap (λ n. with_entries n es)
    (layer_put (map.from_entries done) e.0 e.1 (map.get-from_entries nat_list_cmp_total done e.0 ∙ new)
    ∙ sym (map.from_entries_push nat_list_cmp_total same_text done e.0 e.1 new))
    ∙ entries_put (done ++ (e ∷ [])) es (subst (λ w. T (map.is_sorted (slice_cmp nat_cmp) w)) (sym (append_assoc done (e ∷ []) es)) s)
    ∙ ap map.from_entries (append_assoc done (e ∷ []) es)

-- the entries of a map make it
pub all_entries : (m : Layers) → with_entries map.empty (map.entries m) ≡ m
all_entries m =
    entries_put [] (map.entries m) (map.entries_sorted m)
    ∙ map.same_map nat_list_cmp_total same_text _ _ (λ q. map.get-from_entries nat_list_cmp_total (map.entries m) q ∙ sym (map.get-entries m q))
