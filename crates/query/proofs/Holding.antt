-- Features beside the bodies that hold them, in order.
use Rattle.std.proofs.Common.{◌≡◌, ◌<◌, ◌≤◌, ◌+◌, ℕ, List, [], ◌∷◌, ◌++◌, length, get_or, drop, inl, inr, refl, sym, ap, ◌∙◌, subst, Option, Some, None, append_assoc, append-nil, is_some, IsTrue}
use Rattle.std.specs.Prelude.{map as map_list}
use Rattle.std.specs.Cmp.{on_total}
use Rattle.std.specs.FinMap as map
use Rattle.std.specs.List.Sorted.{IsPermutation, IsSorted}
use Rattle.std.proofs.lemmas.List.{drop_all, map-append}
use Rattle.std.proofs.lemmas.List.Sorted.{IsPermutation-sym}
use Rattle.grid.specs.declared.pos.Pos.{Pos}
use Rattle.shapes.specs.Maps.{Layers, features_at}
use Rattle.shapes.specs.Order.{feature_cmp}
use Rattle.shapes.specs.OrderLaws.{feature_cmp_total}
use Rattle.shapes.specs.Parts.{spelled_text}
use Rattle.shapes.specs.Sets as set
use Rattle.shapes.specs.declared.feature.Feature.{Feature}
use Rattle.chains.proofs.Layers.{no_features}
use Rattle.lines.proofs.Dropping.{drop_item, item_at}
use Rattle.lines.proofs.SortedLists.{Up, up_from_sorted, Has-permutation}
use Rattle.theory.specs.Lists.{Has, gathered}
use Rattle.theory.proofs.ListsOfLists.{Has-map, map_has, Has-gathered, gathered_from, get_has}
use Rattle.topo.specs.Features.{AreFeaturesOf, IsFeatureOf}
use Rattle.topo.specs.OfMap.{IsOf}
use Rattle.topo.specs.Parts.{IsOfLayerNamed, LayerParts, TopologyParts}
use Rattle.topo.specs.Bodies.{Body}
use Rattle.topo.specs.declared.geom.Geom.{Geom}
use Rattle.topo.proofs.Pairs.{none_behind, pair_at}
use Rattle.topo.proofs.Stitched.{geometries_of}
use Rattle.query.specs.Members.{held, paired, layer_pairs, AreLayersIn, Holds, InOrder, AreMembers, ArePairs}
use Rattle.query.specs.declared.members.Member.{Member}
use Rattle.query.proofs.LayerFeatures.{OfFeatures, entry_layer, key_entry, layer_form, named_features}

-- a feature and its body put behind the others
pub layer_step : (arcs : List (List Pos)) (fs : List Feature) (gs : List Geom) (ms new : List Member) (i : ℕ) (g : Geom) (p : Member) (start : List (Feature × Body)) →
    AreFeaturesOf arcs fs gs → i < length gs → g ≡ get_or gs i g → ((f : Feature) → IsFeatureOf arcs f g → p.feature ≡ f) → p.body.now ≡ g.body → new ≡ ms ++ (p ∷ []) →
    map_list held ms ++ paired (drop i fs) (drop i gs) ≡ start → map_list held new ++ paired (drop (i + 1) fs) (drop (i + 1) gs) ≡ start
layer_step arcs fs gs ms new i g p start h k e made at is left =
    let (f, parted, r) = pair_at (IsFeatureOf arcs) fs gs i g h k e in
    let rest = drop_item gs i g k e in
    let one : held p ≡ (f, g.body) = λ j. (made f r j, at j) in
    let both : paired (drop i fs) (drop i gs) ≡ (f, g.body) ∷ paired (drop (i + 1) fs) (drop (i + 1) gs) = λ j. paired (parted j) (rest j) in
    ap (λ w. map_list held w ++ paired (drop (i + 1) fs) (drop (i + 1) gs)) is
    ∙ ap (λ w. w ++ paired (drop (i + 1) fs) (drop (i + 1) gs)) (map-append held ms (p ∷ []))
    ∙ append_assoc (map_list held ms) (held p ∷ []) (paired (drop (i + 1) fs) (drop (i + 1) gs))
    ∙ ap (λ w. map_list held ms ++ (w ∷ paired (drop (i + 1) fs) (drop (i + 1) gs))) one
    ∙ ap (λ w. map_list held ms ++ w) (sym both) ∙ left

pub layer_done : (arcs : List (List Pos)) (fs : List Feature) (gs : List Geom) (ms : List Member) (i : ℕ) (start : List (Feature × Body)) →
    AreFeaturesOf arcs fs gs → length gs ≤ i → map_list held ms ++ paired (drop i fs) (drop i gs) ≡ start → map_list held ms ≡ start
layer_done arcs fs gs ms i start h k left =
    sym (append-nil (map_list held ms)) ∙ ap (λ w. map_list held ms ++ paired w (drop i gs)) (sym (none_behind (IsFeatureOf arcs) fs gs i h k)) ∙ left

-- the features of a layer put behind the others
pub layers_step : (m : Layers) (t : TopologyParts) → IsOf m t → (ls : List LayerParts) → ((l : LayerParts) → Has l ls → Has l t.layers) → (i : ℕ) (l : LayerParts) (gs : List Geom) →
    gs ≡ l.geometries → (ms new : List Member) (start : List (Feature × Body)) → i < length ls → l ≡ get_or ls i l →
    ((fs : List Feature) → AreFeaturesOf t.arcs.arcs fs gs → map_list held new ≡ map_list held ms ++ paired fs gs) →
    map_list held ms ++ gathered (layer_pairs m) (drop i ls) ≡ start → map_list held new ++ gathered (layer_pairs m) (drop (i + 1) ls) ≡ start
layers_step m t of ls some i l gs is ms new start less at put left =
    let there = some l (get_has ls i l (item_at ls i l less at)) in
    let fs = set.items (features_at m (spelled_text l.name)) in
    let made = put fs (geometries_of m t (spelled_text l.name) gs of (l, there, refl, is)) in
    ap (λ w. w ++ gathered (layer_pairs m) (drop (i + 1) ls)) (made ∙ ap (λ w. map_list held ms ++ paired fs w) is)
    ∙ append_assoc (map_list held ms) (layer_pairs m l) (gathered (layer_pairs m) (drop (i + 1) ls))
    ∙ ap (λ w. map_list held ms ++ gathered (layer_pairs m) w) (sym (drop_item ls i l less at)) ∙ left

-- where none are left
pub all_gathered : {A B : Type 0} (f : A → List B) (xs : List A) (i : ℕ) (made all : List B) → length xs ≤ i → made ++ gathered f (drop i xs) ≡ all → made ≡ all
all_gathered f xs i made all k left = sym (append-nil made) ∙ ap (λ w. made ++ gathered f w) (sym (drop_all i xs k)) ∙ left

module _ (m : Layers) (t : TopologyParts) (of : IsOf m t) where
  pair_members : (fs : List Feature) (gs : List Geom) → OfFeatures m t of fs gs → (f : Feature) (b : Body) → Has (f, b) (paired fs gs) → Has f fs × Holds m t f b
  pair_members [] gs h f b k = absurd k
  pair_members (e ∷ fs) [] h f b k = absurd k
  pair_members (e ∷ fs) (g ∷ gs) h f b (inl k) =
      let p : f ≡ e = ap (λ w. w.0) k in
      let q : b ≡ g.body = ap (λ w. w.1) k in
      (inl p, subst (λ x. Holds m t x b) (sym p) (subst (λ x. Holds m t e x) (sym q) h.0.form))
  pair_members (e ∷ fs) (g ∷ gs) h f b (inr k) = let r = pair_members fs gs h.1 f b k in (inr r.0, r.1)

  members_pair : (fs : List Feature) (gs : List Geom) → OfFeatures m t of fs gs → (f : Feature) → Has f fs → (b : Body) × Has (f, b) (paired fs gs)
  members_pair [] gs h f k = absurd k
  members_pair (e ∷ fs) [] h f k = absurd h
  members_pair (e ∷ fs) (g ∷ gs) h f (inl k) = (g.body, inl (λ j. (k j, g.body)))
  members_pair (e ∷ fs) (g ∷ gs) h f (inr k) = let r = members_pair fs gs h.1 f k in (r.0, inr r.1)

  in_order : (ps : List Member) → Up (λ p q. feature_cmp p.feature q.feature) ps → InOrder ps
  in_order [] u = tt
  in_order (p ∷ ps) u = (u.0, in_order ps u.1)

  pub members_by : (scope : Option (List ℕ)) (pairs : List (Feature × Body)) → ArePairs m t scope pairs →
      (ps qs : List Member) → map_list held ps ≡ pairs → IsPermutation ps qs → IsSorted (λ p q. feature_cmp p.feature q.feature) qs → AreMembers m t scope qs
  members_by scope pairs are ps qs is moved sorted = record {
    only = λ p h.
        let k = are.only p.feature p.body.now (subst (Has (held p)) is (Has-map held ps p (Has-permutation qs ps p (IsPermutation-sym ps qs moved) h))) in
        record { within = k.0; form = k.1; body = k.2 };
    all = λ f i.
        let (b, h) = are.all f i in
        let (p, there, e) = map_has held ps (f, b) (subst (Has (f, b)) (sym is) h) in
        (p, Has-permutation ps qs p moved there, ap (λ w. w.0) (sym e));
    ordered = in_order qs (up_from_sorted (λ p q. feature_cmp p.feature q.feature) (on_total (λ (p : Member). p.feature) feature_cmp_total) qs sorted);
  }

  -- the features of one layer
  named_pairs : (name : List ℕ) (gs : List Geom) → IsOfLayerNamed t.layers name gs → ArePairs m t (Some name) (paired (set.items (features_at m name)) gs)
  named_pairs name gs under =
      let (there, all) = named_features m t of name gs under in
      record {
        only = λ f b h. let r = pair_members (set.items (features_at m name)) gs all f b h in (r.0, layer_form m name there f r.0, r.1);
        all = λ f i. members_pair (set.items (features_at m name)) gs all f i;
      }

  -- a name with features is that of a layer
  has_key : (name : List ℕ) (f : Feature) → Has f (set.items (features_at m name)) → IsTrue (map.contains_key m name)
  has_key name f h = go (map.get m name) refl
    where
      go : (o : Option (set.FinSet feature_cmp)) → map.get m name ≡ o → IsTrue (map.contains_key m name)
      go (Some s) e = ap is_some e
      go None e = absurd (subst (Has f) (no_features m name (sym e)) h)

  -- the features of all layers
  gathered_pairs : ArePairs m t None (gathered (layer_pairs m) t.layers)
  gathered_pairs = record {
    only = λ f b h.
        let (l, there, k) = gathered_from (layer_pairs m) t.layers (f, b) h in
        let (key, all) = named_features m t of (spelled_text l.name) l.geometries (l, there, refl, refl) in
        let r = pair_members (set.items (features_at m (spelled_text l.name))) l.geometries all f b k in
        ((spelled_text l.name, r.0), layer_form m (spelled_text l.name) key f r.0, r.1);
    all = λ f i.
        let (e, at, named) = key_entry m i.0 (has_key i.0 f i.1) in
        let (l, there, same) = entry_layer m t of e at in
        let (key, all) = named_features m t of (spelled_text l.name) l.geometries (l, there, refl, refl) in
        let here = subst (λ n. Has f (set.items (features_at m n))) (sym (same ∙ named)) i.1 in
        let r = members_pair (set.items (features_at m (spelled_text l.name))) l.geometries all f here in
        (r.0, Has-gathered (layer_pairs m) t.layers l (f, r.0) there r.1);
  }

  -- the features in scope
  pub scope_pairs : (scope : Option (List ℕ)) (ls : List LayerParts) → AreLayersIn t scope ls → ArePairs m t scope (gathered (layer_pairs m) ls)
  scope_pairs (Some name) ls (l, there, named, is) =
      subst (ArePairs m t (Some name)) (sym (append-nil (layer_pairs m l)) ∙ ap (gathered (layer_pairs m)) (sym is))
      (subst (λ n. ArePairs m t (Some name) (paired (set.items (features_at m n)) l.geometries)) (sym named) (named_pairs name l.geometries (l, there, named, refl)))
  scope_pairs None ls is = subst (λ w. ArePairs m t None (gathered (layer_pairs m) w)) (sym is) gathered_pairs

-- they are layers of the topology
pub scope_layers : (t : TopologyParts) (scope : Option (List ℕ)) (ls : List LayerParts) → AreLayersIn t scope ls → (l : LayerParts) → Has l ls → Has l t.layers
scope_layers t (Some name) ls (k, there, named, is) l h =
    elim (subst (Has l) is h) [ inl e ↦ subst (λ w. Has w t.layers) (sym e) there | inr e ↦ absurd e ]
scope_layers t None ls is l h = subst (Has l) is h
