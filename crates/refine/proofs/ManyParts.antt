-- The parts of many topologies: their layers by the arcs of one table, merged two by two, are the parts of the union's topology.
use Rattle.std.proofs.Common.{◌≡◌, ℕ, suc, ◌+◌, List, [], ◌∷◌, ◌++◌, append-nil, append_assoc, length, inl, inr, Some, slice_get, refl, sym, ap, ◌∙◌, subst, arith}
use Rattle.std.specs.Prelude.{map as map_list}
use Rattle.std.specs.FinMap as map
use Rattle.std.specs.Cmp.Lexicographic.{slice_cmp}
use Rattle.std.specs.Ordering.{nat_cmp}
use Rattle.grid.specs.declared.pos.Pos.{Pos}
use Rattle.lines.specs.Turned.{position_cmp}
use Rattle.shapes.specs.Maps.{Features, Layers}
use Rattle.shapes.specs.Sets as set
use Rattle.shapes.specs.Union.{union}
use Rattle.arcs.specs.Arcs.{Arcs}
use Rattle.chains.specs.ManyTables.{AreTablesOf, IsUnionOfAll}
use Rattle.chains.specs.Seen as seen_by
use Rattle.chains.specs.Seen.{geometry_of, seen}
use Rattle.arcs.specs.Table.{IsTableOf}
use Rattle.theory.specs.Geometry.{Geometry, IsSound, JunctionOf}
use Rattle.theory.specs.Lists.{Has, Pairwise, gathered}
use Rattle.theory.specs.Refinement.{IsPartOf, IsRefinementOf}
use Rattle.theory.specs.Topology.{IsGeometryOf, IsLayerOf, forms_of, lines_in, rings_in}
use Rattle.theory.proofs.ListsOfLists.{Has-map, map_has}
use Rattle.merging.specs.Laws.{union_associates, union_commutes, union_empty}
use Rattle.merging.specs.Plans.{union_all}
use Rattle.merging.proofs.PlanLemmas.{union_all-append}
use Rattle.topo.proofs.GeometryOrderLemmas.NodedTables.{table_noded}
use Rattle.topo.specs.GeometryOrder.Noded.{AreNoded}
use Rattle.topo.specs.LayerLaws.CutLayers.{layer_recut, layers_merged}
use Rattle.topo.proofs.LayerLawsLemmas.JoinedLayers.{IsJoinedLayer}
use Rattle.topo.proofs.LayerLawsLemmas.JoinedPairs.{cut_layers, layers_have, layers_joined}
use Rattle.topo.proofs.LayerLawsLemmas.MergedLayers.{entries_of_union}
use Rattle.topo.proofs.LayerLawsLemmas.RecutGeometries.{layers_after_recut}
use Rattle.topo.proofs.LayerLawsLemmas.UnitedGeometry.{geometries_unite}
use Rattle.split_heal.specs.CuttingAll.{IsRecutOfAll}
use Rattle.split_heal.specs.PartsOfAll.{RecutAllParts, of_table}
use Rattle.topo.specs.GeometryOrder.{LayersHaveFeatures}
use Rattle.topo.specs.OfMap.{ArePartsOf, IsOf, item_of, layer_of}
use Rattle.topo.specs.Parts.{LayerParts, TopologyParts}
use Rattle.topo.proofs.Sound.{are_sound}
use Rattle.refine.specs.ManyLayers.{AreLayersOf, ArePartsOfAll, layers_recut_from}

-- what stands side by side in mapped lists
mapped_pairs : {A B C D : Type 0} (R : C → D → Type 0) (f : A → C) (h : B → D) (xs : List A) (ys : List B) → Pairwise (λ x y. R (f x) (h y)) xs ys → Pairwise R (map_list f xs) (map_list h ys)
mapped_pairs R f h [] [] p = tt
mapped_pairs R f h [] (y ∷ ys) p = absurd p
mapped_pairs R f h (x ∷ xs) [] p = absurd p
mapped_pairs R f h (x ∷ xs) (y ∷ ys) p = (p.0, mapped_pairs R f h xs ys p.1)

pairs_unmapped : {A B C D : Type 0} (R : C → D → Type 0) (f : A → C) (h : B → D) (xs : List A) (ys : List B) → Pairwise R (map_list f xs) (map_list h ys) → Pairwise (λ x y. R (f x) (h y)) xs ys
pairs_unmapped R f h [] [] p = tt
pairs_unmapped R f h [] (y ∷ ys) p = absurd p
pairs_unmapped R f h (x ∷ xs) [] p = absurd p
pairs_unmapped R f h (x ∷ xs) (y ∷ ys) p = (p.0, pairs_unmapped R f h xs ys p.1)

-- layers by their entries, and as they are seen
module _ (J : Pos → Type 0) (table : List (List Pos)) where
  as_seen : (es : List (List ℕ × Features)) (ls : List LayerParts) → Pairwise (IsJoinedLayer J table) es ls →
      Pairwise (IsLayerOf position_cmp J table) (map_list seen_by.layer_of es) (map_list layer_of ls)
  as_seen [] [] h = tt
  as_seen [] (l ∷ ls) h = absurd h
  as_seen (e ∷ es) [] h = absurd h
  as_seen (e ∷ es) (l ∷ ls) h = (
    record { name = h.0.name; items = mapped_pairs (IsGeometryOf position_cmp J table) seen_by.item_of item_of (set.items e.1) l.geometries h.0.items },
    as_seen es ls h.1,
  )

  by_entries : (es : List (List ℕ × Features)) (ls : List LayerParts) → Pairwise (IsLayerOf position_cmp J table) (map_list seen_by.layer_of es) (map_list layer_of ls) →
      Pairwise (IsJoinedLayer J table) es ls
  by_entries [] [] h = tt
  by_entries [] (l ∷ ls) h = absurd h
  by_entries (e ∷ es) [] h = absurd h
  by_entries (e ∷ es) (l ∷ ls) h = (
    record { name = h.0.name; items = pairs_unmapped (IsGeometryOf position_cmp J table) seen_by.item_of item_of (set.items e.1) l.geometries h.0.items },
    by_entries es ls h.1,
  )

-- layers by one table
module _ (u : Layers) (table : List (List Pos)) where
  pub have_features : (m : Layers) (ls : List LayerParts) → AreLayersOf u table m ls → LayersHaveFeatures table ls
  have_features m ls h = layers_have (JunctionOf (geometry_of u)) table (map.entries m) ls (by_entries (JunctionOf (geometry_of u)) table (map.entries m) ls h)

  -- those of two maps merged are those of their union
  pub merged_layers : (m n : Layers) (ls ks : List LayerParts) → AreLayersOf u table m ls → AreLayersOf u table n ks → AreLayersOf u table (union m n) (layers_merged table ls ks)
  merged_layers m n ls ks h k =
      let J = JunctionOf (geometry_of u) in
      as_seen J table (map.entries (union m n)) (layers_merged table ls ks)
      (subst (λ es. Pairwise (IsJoinedLayer J table) es (layers_merged table ls ks)) (sym (entries_of_union m n))
      (layers_joined J table (map.entries m) (map.entries n) ls ks (by_entries J table (map.entries m) ls h) (by_entries J table (map.entries n) ks k)))

-- a table's map, and its parts
pub parts_of : (m : Layers) (t : TopologyParts) → IsOf m t → ArePartsOf m t.arcs t.layers
parts_of m t h = record { table = h.table; layers = h.topology.layers }

pub no_items : {A : Type 0} (l : List A) → length l ≡ 0 → l ≡ []
no_items [] h = refl
no_items (x ∷ l) h = absurd (omega (arith, h))

empty_entries : map.entries (union_all []) ≡ []
empty_entries = no_items (map.entries (union_all [])) (sym (map.len-entries map.empty) ∙ map.len-empty (slice_cmp nat_cmp) Features)

-- the geometries of maps, united
pub all_unite : (ms : List Layers) → IsUnionOfAll (map_list geometry_of ms) (geometry_of (union_all ms))
all_unite [] = record {
  parts = λ m h. absurd h;
  lines = λ l h. absurd (subst (λ es. Has l (gathered lines_in (forms_of (map_list seen_by.layer_of es)))) empty_entries h);
  rings = λ r h. absurd (subst (λ es. Has r (gathered rings_in (forms_of (map_list seen_by.layer_of es)))) empty_entries h);
}
all_unite (m ∷ ms) =
    let more = all_unite ms in
    let both = geometries_unite m (union_all ms) in
    record {
      parts = λ g h. elim h [
        | inl e ↦ subst (λ w. IsPartOf w (geometry_of (union m (union_all ms)))) (sym e) both.left
        | inr k ↦ (let part = more.parts g k in record { lines = λ l i. both.right.lines l (part.lines l i); rings = λ r i. both.right.rings r (part.rings r i) })
      ];
      lines = λ l h. elim (both.lines l h) [
        | inl k ↦ (geometry_of m, inl refl, k)
        | inr k ↦ (let t = more.lines l k in (t.0, inr t.1, t.2))
      ];
      rings = λ r h. elim (both.rings r h) [
        | inl k ↦ (geometry_of m, inl refl, k)
        | inr k ↦ (let t = more.rings r k in (t.0, inr t.1, t.2))
      ];
    }

pub tables_of_all : (ms : List Layers) (ts : List Arcs) (lists : List (List LayerParts)) → ArePartsOfAll ms ts lists → AreTablesOf (map_list geometry_of ms) ts
tables_of_all ms ts lists h = record {
  sound = λ g k. let t = map_has geometry_of ms g k in subst IsSound (sym t.2) (are_sound t.0);
  each = go ms ts lists h;
}
  where
    go : (ms : List Layers) (ts : List Arcs) (lists : List (List LayerParts)) → ArePartsOfAll ms ts lists → Pairwise IsTableOf (map_list geometry_of ms) ts
    go [] [] [] h = tt
    go [] [] (l ∷ ls) h = absurd h
    go [] (t ∷ ts) ls h = absurd h
    go (m ∷ ms) [] ls h = absurd h
    go (m ∷ ms) (t ∷ ts) [] h = absurd h
    go (m ∷ ms) (t ∷ ts) (l ∷ ls) h = (h.0.table, go ms ts ls h.1)

-- the layers of all by the new arcs
module _ (u : Layers) (r : RecutAllParts) where
  recut_layers : (n : ℕ) (ms : List Layers) (ts : List Arcs) (lists : List (List LayerParts)) → ((m : Layers) → Has m ms → IsPartOf (geometry_of m) (geometry_of u)) →
      ((i : ℕ) (m : Geometry Pos) (t : Arcs) → slice_get (map_list geometry_of ms) i ≡ Some m → slice_get ts i ≡ Some t →
      IsRefinementOf position_cmp m (geometry_of u) t.arcs r.arcs.arcs (of_table (n + i) r)) →
      ArePartsOfAll ms ts lists → Pairwise (AreLayersOf u r.arcs.arcs) ms (layers_recut_from r n lists)
  recut_layers n [] [] [] part ref h = tt
  recut_layers n [] [] (l ∷ ls) part ref h = absurd h
  recut_layers n [] (t ∷ ts) ls part ref h = absurd h
  recut_layers n (m ∷ ms) [] ls part ref h = absurd h
  recut_layers n (m ∷ ms) (t ∷ ts) [] part ref h = absurd h
  recut_layers n (m ∷ ms) (t ∷ ts) (l ∷ ls) part ref h =
      let J = JunctionOf (geometry_of u) in
      let first : IsRefinementOf position_cmp (geometry_of m) (geometry_of u) t.arcs r.arcs.arcs (of_table n r) =
      subst (λ k. IsRefinementOf position_cmp (geometry_of m) (geometry_of u) t.arcs r.arcs.arcs (of_table k r)) (omega arith) (ref 0 (geometry_of m) t refl refl) in (
        as_seen J r.arcs.arcs (map.entries m) (map_list (layer_recut r.arcs.arcs (of_table n r)) l)
            (cut_layers J r.arcs.arcs (of_table n r) (map.entries m) l
            (layers_after_recut m u (part m (inl refl)) t.arcs r.arcs.arcs (of_table n r) first l h.0.layers)),
        recut_layers (n + 1) ms ts ls (λ k i. part k (inr i))
            (λ i k s e f. subst (λ j. IsRefinementOf position_cmp k (geometry_of u) s.arcs r.arcs.arcs (of_table j r)) (omega arith) (ref (suc i) k s e f)) h.1,
      )

module _ (ms : List Layers) (ts : List Arcs) (lists : List (List LayerParts)) (are : ArePartsOfAll ms ts lists) (r : RecutAllParts)
    (recut : (maps : List (Geometry Pos)) (u : Geometry Pos) → AreTablesOf maps ts → IsUnionOfAll maps u → IsRecutOfAll maps u ts r) where
  is_recut : IsRecutOfAll (map_list geometry_of ms) (geometry_of (union_all ms)) ts r
  is_recut = recut (map_list geometry_of ms) (geometry_of (union_all ms)) (tables_of_all ms ts lists are) (all_unite ms)

  pub all_table : IsTableOf (geometry_of (union_all ms)) r.arcs
  all_table = is_recut.table

  pub all_noded : AreNoded r.arcs.arcs
  all_noded = table_noded (geometry_of (union_all ms)) r.arcs all_table

  pub all_layers : Pairwise (AreLayersOf (union_all ms) r.arcs.arcs) ms (layers_recut_from r 0 lists)
  all_layers =
      recut_layers (union_all ms) r 0 ms ts lists (λ m h. (all_unite ms).parts (geometry_of m) (Has-map geometry_of ms m h))
      (λ i m t e f. subst (λ j. IsRefinementOf position_cmp m (geometry_of (union_all ms)) t.arcs r.arcs.arcs (of_table j r)) (omega arith) (is_recut.of_each i m t e f))
      are

-- what is left while lists are merged: their maps have the same union
pub record AreLeft (u : Layers) (table : List (List Pos)) (ms : List Layers) (left : List (List LayerParts)) : Type 0 where
  pub maps : List Layers
  pub each : Pairwise (AreLayersOf u table) maps left
  pub same : union_all maps ≡ union_all ms

pub two_maps : {A B : Type 0} (R : A → B → Type 0) (xs : List A) (y z : B) (rest : List B) → Pairwise R xs (y ∷ (z ∷ rest)) →
    (a : A) × (b : A) × (as' : List A) × (xs ≡ a ∷ (b ∷ as')) × R a y × R b z × Pairwise R as' rest
two_maps R [] y z rest p = absurd p
two_maps R (a ∷ []) y z rest p = absurd p.1
two_maps R (a ∷ (b ∷ as')) y z rest p = (a, b, as', refl, p.0, p.1.0, p.1.1)

pub one_map : {A B : Type 0} (R : A → B → Type 0) (xs : List A) (y : B) → Pairwise R xs (y ∷ []) → (a : A) × (xs ≡ a ∷ []) × R a y
one_map R [] y p = absurd p
one_map R (a ∷ []) y p = (a, refl, p.0)
one_map R (a ∷ (b ∷ as')) y p = absurd p.1

pairs_more : {A B : Type 0} (R : A → B → Type 0) (xs : List A) (ys : List B) (a : A) (b : B) → Pairwise R xs ys → R a b → Pairwise R (xs ++ (a ∷ [])) (ys ++ (b ∷ []))
pairs_more R [] [] a b p h = (h, tt)
pairs_more R [] (y ∷ ys) a b p h = absurd p
pairs_more R (x ∷ xs) [] a b p h = absurd p
pairs_more R (x ∷ xs) (y ∷ ys) a b p h = (p.0, pairs_more R xs ys a b p.1 h)

module _ (u : Layers) (table : List (List Pos)) (ms : List Layers) where
  pub all_left : (lists : List (List LayerParts)) → Pairwise (AreLayersOf u table) ms lists → AreLeft u table ms lists
  all_left lists h = record { maps = ms; each = h; same = refl }

  -- the first two merged and put last
  pub two_merged : (left : List (List LayerParts)) (y z : List LayerParts) (rest more : List (List LayerParts)) (both : List LayerParts) → AreLeft u table ms left → left ≡ y ∷ (z ∷ rest) →
      both ≡ layers_merged table y z → more ≡ rest ++ (both ∷ []) → AreLeft u table ms more
  two_merged left y z rest more both a e f k =
      let (m, n, ns, is, hm, hn, hs) = two_maps (AreLayersOf u table) a.maps y z rest (subst (Pairwise (AreLayersOf u table) a.maps) e a.each) in
      record {
        maps = ns ++ (union m n ∷ []);
        each = subst (Pairwise (AreLayersOf u table) (ns ++ (union m n ∷ []))) (sym k)
            (pairs_more (AreLayersOf u table) ns rest (union m n) both hs (subst (AreLayersOf u table (union m n)) (sym f) (merged_layers u table m n y z hm hn)));
        same =
            union_all-append ns (union m n ∷ [])
            ∙ ap (union (union_all ns)) (union_empty (union m n))
            ∙ union_commutes (union_all ns) (union m n)
            ∙ union_associates m n (union_all ns)
            ∙ sym (ap union_all is)
            ∙ a.same;
      }

  pub first_has : (left : List (List LayerParts)) (y : List LayerParts) (rest : List (List LayerParts)) → AreLeft u table ms left → left ≡ y ∷ rest → LayersHaveFeatures table y
  first_has left y rest a e = go a.maps (subst (Pairwise (AreLayersOf u table) a.maps) e a.each)
    where
      go : (ns : List Layers) → Pairwise (AreLayersOf u table) ns (y ∷ rest) → LayersHaveFeatures table y
      go [] p = absurd p
      go (n ∷ ns) p = have_features u table n y p.0

  pub second_has : (left : List (List LayerParts)) (y z : List LayerParts) (rest : List (List LayerParts)) → AreLeft u table ms left → left ≡ y ∷ (z ∷ rest) → LayersHaveFeatures table z
  second_has left y z rest a e =
      let (m, n, ns, is, hm, hn, hs) = two_maps (AreLayersOf u table) a.maps y z rest (subst (Pairwise (AreLayersOf u table) a.maps) e a.each) in
      have_features u table n z hn

  -- the last that is left
  pub last_left : (left : List (List LayerParts)) (y : List LayerParts) → AreLeft u table ms left → left ≡ y ∷ [] → AreLayersOf u table (union_all ms) y
  last_left left y a e =
      let (m, is, h) = one_map (AreLayersOf u table) a.maps y (subst (Pairwise (AreLayersOf u table) a.maps) e a.each) in
      subst (λ w. AreLayersOf u table w y) (sym (union_empty m) ∙ sym (ap union_all is) ∙ a.same) h

  pub none_left : (left : List (List LayerParts)) → AreLeft u table ms left → left ≡ [] → AreLayersOf u table (union_all ms) []
  none_left left a e = go a.maps (subst (Pairwise (AreLayersOf u table) a.maps) e a.each) a.same
    where
      go : (ns : List Layers) → Pairwise (AreLayersOf u table) ns [] → union_all ns ≡ union_all ms → AreLayersOf u table (union_all ms) []
      go [] p s =
          subst (λ w. AreLayersOf u table w []) s
          (subst (λ es. Pairwise (IsLayerOf position_cmp (JunctionOf (geometry_of u)) table) (map_list seen_by.layer_of es) []) (sym empty_entries) tt)
      go (n ∷ ns) p s = absurd p

-- a topology's arcs and layers, as they are handed over
pub parts_over : (m : Layers) (t : TopologyParts) (a : Arcs) (l : List LayerParts) → IsOf m t → a ≡ t.arcs → l ≡ t.layers → ArePartsOf m a l
parts_over m t a l h e f = subst (λ w. ArePartsOf m w l) (sym e) (subst (ArePartsOf m t.arcs) (sym f) (parts_of m t h))

-- one more topology is taken apart
pub parts_step : (all left rest : List Layers) (m : Layers) (tables new : List Arcs) (lists more : List (List LayerParts)) (a : Arcs) (l : List LayerParts) →
    ((ts : List Arcs) (ls : List (List LayerParts)) → ArePartsOfAll left ts ls → ArePartsOfAll all (tables ++ ts) (lists ++ ls)) → left ≡ m ∷ rest → ArePartsOf m a l →
    new ≡ tables ++ (a ∷ []) → more ≡ lists ++ (l ∷ []) →
    (ts : List Arcs) (ls : List (List LayerParts)) → ArePartsOfAll rest ts ls → ArePartsOfAll all (new ++ ts) (more ++ ls)
parts_step all left rest m tables new lists more a l before e h n k ts ls p =
    let one : ArePartsOfAll all (tables ++ (a ∷ ts)) (lists ++ (l ∷ ls)) = before (a ∷ ts) (l ∷ ls) (subst (λ w. ArePartsOfAll w (a ∷ ts) (l ∷ ls)) (sym e) (h, p)) in
    subst (λ w. ArePartsOfAll all (w ++ ts) (more ++ ls)) (sym n)
    (subst (λ w. ArePartsOfAll all ((tables ++ (a ∷ [])) ++ ts) (w ++ ls)) (sym k)
    (subst (λ w. ArePartsOfAll all w ((lists ++ (l ∷ [])) ++ ls)) (sym (append_assoc tables (a ∷ []) ts))
    (subst (ArePartsOfAll all (tables ++ (a ∷ ts))) (sym (append_assoc lists (l ∷ []) ls)) one)))

pub parts_done : (all left : List Layers) (tables : List Arcs) (lists : List (List LayerParts)) →
    ((ts : List Arcs) (ls : List (List LayerParts)) → ArePartsOfAll left ts ls → ArePartsOfAll all (tables ++ ts) (lists ++ ls)) → left ≡ [] → ArePartsOfAll all tables lists
parts_done all left tables lists before e =
    subst (λ w. ArePartsOfAll all w lists) (append-nil tables)
    (subst (ArePartsOfAll all (tables ++ [])) (append-nil lists) (before [] [] (subst (λ w. ArePartsOfAll w [] []) (sym e) tt)))
