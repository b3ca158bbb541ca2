-- The geometries of a layer, and the features of the map that they are of.
use Rattle.std.proofs.Common.{◌≡◌, ◌↔◌, ℕ, zero, suc, true, ◌||◌, IsTrue, List, [], ◌∷◌, length, inl, inr, refl, sym, ap, ◌∙◌, subst, Some, slice_get, is_some, Result, Ok, Err}
use Rattle.std.specs.Prelude.{map as map_list}
use Rattle.std.specs.Cmp.Lexicographic.{slice_cmp, nat_list_cmp_total}
use Rattle.std.specs.FinMap as map
use Rattle.std.specs.FinMap.{nat_cmp-IsAntisymmetric, slice_cmp-IsAntisymmetric}
use Rattle.std.specs.List.{list_any}
use Rattle.std.specs.Ordering.{eq_by_cmp, is_eq, nat_cmp}
use Rattle.std.specs.Result.{IsErrAnd}
use Rattle.std.specs.declared.cmp.Ordering.{Ordering}
use Rattle.std.specs.declared.cmp.Ordering.TheVariants.{Less, Equal, Greater}
use Rattle.grid.specs.declared.pos.Pos.{Pos}
use Rattle.lines.specs.Turned.{position_cmp}
use Rattle.lines.specs.Positions.{position_total, position_same}
use Rattle.shapes.specs.Maps.{Layers, Features, features_at}
use Rattle.shapes.specs.Parts.{spelled_text}
use Rattle.shapes.specs.Sets as set
use Rattle.shapes.specs.declared.feature.Feature.{Feature}
use Rattle.chains.specs.Seen as seen_by
use Rattle.chains.specs.Seen.{form_of, seen, geometry_of}
use Rattle.theory.specs.Geometry.{IsRingOf, JunctionOf, SegmentOf}
use Rattle.theory.specs.Lists.{Has, Pairwise, gathered}
use Rattle.theory.specs.Topology.{IsGeometryOf, IsLayerOf, forms_of, lines_in, rings_in}
use Rattle.theory.specs.Users.{HasSegment, ShareArc, ShareSegment}
use Rattle.theory.proofs.Ascending.{dec_by}
use Rattle.theory.proofs.ListsOfLists.{Has-map, map_has, Has-gathered}
use Rattle.theory.proofs.UsersOfArcs.{share}
use Rattle.topo.specs.OfMap.{IsOf, body_of, item_of, layer_of}
use Rattle.topo.specs.Parts.{IsOfLayerNamed, LayerParts, TopologyParts}
use Rattle.topo.specs.declared.geom.Geom.{Geom}
use Rattle.query.specs.declared.fault.QueryFault.{QueryFault}
use Rattle.query.specs.declared.fault.QueryFault.TheVariants.{NoLayer, OutOfMemory as WantOfMemory}
use Rattle.shapes.proofs.Entries.{at_entry, found}
use Rattle.topo.proofs.Sound.{are_sound}

partner : {A B : Type 0} (R : A → B → Type 0) (xs : List A) (ys : List B) → Pairwise R xs ys → (x : A) → Has x xs → (y : B) × Has y ys × R x y
partner R [] ys p x h = absurd h
partner R (z ∷ xs) [] p x h = absurd p
partner R (z ∷ xs) (y ∷ ys) p x (inl e) = (y, inl refl, subst (λ w. R w y) (sym e) p.0)
partner R (z ∷ xs) (y ∷ ys) p x (inr h) = let t = partner R xs ys p.1 x h in (t.0, inr t.1, t.2)

partner_back : {A B : Type 0} (R : A → B → Type 0) (xs : List A) (ys : List B) → Pairwise R xs ys → (y : B) → Has y ys → (x : A) × Has x xs × R x y
partner_back R [] [] p y h = absurd h
partner_back R [] (z ∷ ys) p y h = absurd p
partner_back R (x ∷ xs) [] p y h = absurd h
partner_back R (x ∷ xs) (z ∷ ys) p y (inl e) = (x, inl refl, subst (λ w. R x w) (sym e) p.0)
partner_back R (x ∷ xs) (z ∷ ys) p y (inr h) = let t = partner_back R xs ys p.1 y h in (t.0, inr t.1, t.2)

-- index by index
pub pair_at : {A B C D : Type 0} (R : C → D → Type 0) (a : A → C) (b : B → D) (xs : List A) (ys : List B) → Pairwise R (map_list a xs) (map_list b ys) →
    (i : ℕ) (y : B) → slice_get ys i ≡ Some y → (x : A) × (slice_get xs i ≡ Some x) × R (a x) (b y)
pair_at R a b xs [] p i y e = absurd cc
pair_at R a b [] (z ∷ ys) p i y e = absurd p
pair_at R a b (x ∷ xs) (z ∷ ys) p zero y e = let same : z ≡ y = cc in (x, refl, subst (λ w. R (a x) (b w)) same p.0)
pair_at R a b (x ∷ xs) (z ∷ ys) p (suc i) y e = pair_at R a b xs ys p.1 i y e

pub pair_back : {A B C D : Type 0} (R : C → D → Type 0) (a : A → C) (b : B → D) (xs : List A) (ys : List B) → Pairwise R (map_list a xs) (map_list b ys) →
    (i : ℕ) (x : A) → slice_get xs i ≡ Some x → (y : B) × (slice_get ys i ≡ Some y) × R (a x) (b y)
pair_back R a b [] ys p i x e = absurd cc
pair_back R a b (z ∷ xs) [] p i x e = absurd p
pair_back R a b (z ∷ xs) (y ∷ ys) p zero x e = let same : z ≡ x = cc in (y, refl, subst (λ w. R (a w) (b y)) same p.0)
pair_back R a b (z ∷ xs) (y ∷ ys) p (suc i) x e = pair_back R a b xs ys p.1 i x e

pub pair_length : {A B C D : Type 0} (R : C → D → Type 0) (a : A → C) (b : B → D) (xs : List A) (ys : List B) → Pairwise R (map_list a xs) (map_list b ys) →
    length xs ≡ length ys
pair_length R a b [] [] p = refl
pair_length R a b [] (y ∷ ys) p = absurd p
pair_length R a b (x ∷ xs) [] p = absurd p
pair_length R a b (x ∷ xs) (y ∷ ys) p = ap suc (pair_length R a b xs ys p.1)

-- an entry of the name
abbrev Named : List ℕ → List (List ℕ × Features) → Type 0
Named q es = (e : List ℕ × Features) × Has e es × (e.0 ≡ q)

key_from : (q : List ℕ) (es : List (List ℕ × Features)) → list_any (eq_by_cmp (slice_cmp nat_cmp) q) (map_list (λ e. e.0) es) ≡ true → Named q es
key_from q [] h = absurd cc
key_from q (e ∷ es) h = go (slice_cmp nat_cmp q e.0) refl h (λ k. key_from q es k)
  where
    later : Named q es → Named q (e ∷ es)
    later t = (t.0, inr t.1, t.2)

    go : (r : Ordering) → slice_cmp nat_cmp q e.0 ≡ r → (is_eq r || list_any (eq_by_cmp (slice_cmp nat_cmp) q) (map_list (λ d. d.0) es)) ≡ true →
        (list_any (eq_by_cmp (slice_cmp nat_cmp) q) (map_list (λ d. d.0) es) ≡ true → Named q es) → Named q (e ∷ es)
    go Less s k f = later (f k)
    go Equal s k f = (e, inl refl, sym (slice_cmp-IsAntisymmetric nat_cmp-IsAntisymmetric q e.0 s))
    go Greater s k f = later (f k)

pub key_entry : (m : Layers) (q : List ℕ) → IsTrue (map.contains_key m q) → (e : List ℕ × Features) × Has e (map.entries m) × (e.0 ≡ q)
key_entry m q h = key_from q (map.entries m) (sym (map.contains_key-keys m q) ∙ h)

pub entry_key : (m : Layers) (e : List ℕ × Features) → Has e (map.entries m) → IsTrue (map.contains_key m e.0)
entry_key m e h = ap is_some (map.get-entries m e.0 ∙ found (slice_cmp nat_cmp) nat_list_cmp_total (map.entries m) (map.entries_sorted m) e h)

module _ (m : Layers) (t : TopologyParts) (of : IsOf m t) where
  abbrev pub OfFeature : Feature → Geom → Type 0
  OfFeature f g = IsGeometryOf position_cmp (JunctionOf (geometry_of m)) t.arcs.arcs (seen_by.item_of f) (item_of g)

  abbrev pub OfFeatures : List Feature → List Geom → Type 0
  OfFeatures fs gs = Pairwise (IsGeometryOf position_cmp (JunctionOf (geometry_of m)) t.arcs.arcs) (map_list seen_by.item_of fs) (map_list item_of gs)

  -- a layer's geometries are those of an entry of the map
  pub layer_entry : (l : LayerParts) → Has l t.layers →
      (e : List ℕ × Features) × Has e (map.entries m) × (e.0 ≡ spelled_text l.name) × OfFeatures (set.items e.1) l.geometries
  layer_entry l h =
      let (k, there, is) = partner_back (IsLayerOf position_cmp (JunctionOf (geometry_of m)) t.arcs.arcs) (seen m) (map_list layer_of t.layers) of.topology.layers
      (layer_of l) (Has-map layer_of t.layers l h) in
      let (e, at, same) = map_has seen_by.layer_of (map.entries m) k there in (
        e,
        at,
        ap (λ w. w.name) (sym same) ∙ is.name,
        subst (λ w. Pairwise (IsGeometryOf position_cmp (JunctionOf (geometry_of m)) t.arcs.arcs) w.items (map_list item_of l.geometries)) same is.items,
      )

  -- an entry of the map has a layer
  pub entry_layer : (e : List ℕ × Features) → Has e (map.entries m) → (l : LayerParts) × Has l t.layers × (spelled_text l.name ≡ e.0)
  entry_layer e h =
      let (k, there, is) = partner (IsLayerOf position_cmp (JunctionOf (geometry_of m)) t.arcs.arcs) (seen m) (map_list layer_of t.layers) of.topology.layers
      (seen_by.layer_of e) (Has-map seen_by.layer_of (map.entries m) e h) in
      let (l, at, same) = map_has layer_of t.layers k there in
      (l, at, ap (λ w. w.name) (sym same) ∙ sym is.name)

  -- a layer of a name has the features under it
  pub named_features : (name : List ℕ) (gs : List Geom) → IsOfLayerNamed t.layers name gs →
      IsTrue (map.contains_key m name) × OfFeatures (set.items (features_at m name)) gs
  named_features name gs (l, h, n, is) =
      let (e, at, k, all) = layer_entry l h in
      let named : e.0 ≡ name = k ∙ n in
      let under : features_at m name ≡ e.1 = ap (features_at m) (sym named) ∙ at_entry m e at in (
        subst (λ q. IsTrue (map.contains_key m q)) named (entry_key m e at),
        subst (λ w. OfFeatures (set.items (features_at m name)) w) (sym is) (subst (λ w. OfFeatures (set.items w) l.geometries) (sym under) all),
      )

  pub not_named : (name : List ℕ) → ((l : LayerParts) → Has l t.layers → ¬ (spelled_text l.name ≡ name)) → ¬ IsTrue (map.contains_key m name)
  not_named name none h =
      let (e, at, is) = key_entry m name h in
      let (l, there, k) = entry_layer e at in
      none l there (k ∙ is)

-- the form of a feature of a map is one of the map's
pub entry_form : (m : Layers) (e : List ℕ × Features) → Has e (map.entries m) → (f : Feature) → Has f (set.items e.1) → Has (form_of f.shape) (forms_of (seen m))
entry_form m e h f k =
    Has-gathered (λ l. gathered (λ x. x.form ∷ []) l.items) (seen m) (seen_by.layer_of e) (form_of f.shape) (Has-map seen_by.layer_of (map.entries m) e h)
    (Has-gathered (λ x. x.form ∷ []) (map_list seen_by.item_of (set.items e.1)) (seen_by.item_of f) (form_of f.shape) (Has-map seen_by.item_of (set.items e.1) f k) (inl refl))

pub form_rings : (m : Layers) (f : Feature) → Has (form_of f.shape) (forms_of (seen m)) → (r : List Pos) → Has r (rings_in (form_of f.shape)) → IsRingOf (geometry_of m) r
form_rings m f h r k = Has-gathered rings_in (forms_of (seen m)) (form_of f.shape) r h k

pub form_segment : (m : Layers) (f : Feature) → Has (form_of f.shape) (forms_of (seen m)) → (u v : Pos) → HasSegment u v (form_of f.shape) → SegmentOf (geometry_of m) u v
form_segment m f h u v (inl (l, k, b)) = inl (l, Has-gathered lines_in (forms_of (seen m)) (form_of f.shape) l h k, b)
form_segment m f h u v (inr (r, k, b)) = inr (r, Has-gathered rings_in (forms_of (seen m)) (form_of f.shape) r h k, b)

-- and so is that of a feature of a layer
pub layer_form : (m : Layers) (name : List ℕ) → IsTrue (map.contains_key m name) → (f : Feature) → Has f (set.items (features_at m name)) → Has (form_of f.shape) (forms_of (seen m))
layer_form m name h f k =
    let (e, at, is) = key_entry m name h in
    entry_form m e at f (subst (λ w. Has f (set.items w)) (ap (features_at m) (sym is) ∙ at_entry m e at) k)

-- two features share a segment where their geometries share an arc
pub features_share : (m : Layers) (t : TopologyParts) (of : IsOf m t) (f h : Feature) (a b : Geom) →
    Has (form_of f.shape) (forms_of (seen m)) → Has (form_of h.shape) (forms_of (seen m)) → OfFeature m t of f a → OfFeature m t of h b →
    ShareSegment (form_of f.shape) (form_of h.shape) ↔ ShareArc (body_of a.body) (body_of b.body)
features_share m t of f h a b i j p q =
    share position_cmp position_total position_same (dec_by position_cmp position_total position_same) (geometry_of m) (are_sound m) t.arcs.arcs of.table.arcs
    (form_of f.shape) (form_of h.shape) (body_of a.body) (body_of b.body) p.form q.form (form_rings m f i) (form_rings m h j) (form_segment m f i)

-- want of memory is not that the layer lacks
pub layer_holds : {A : Type 0} (r : Result A QueryFault) (Q : Type 0) → IsErrAnd r (λ f. f ≡ WantOfMemory) → Q → (r ≡ Err NoLayer) ↔ (¬ Q)
layer_holds (Ok a) Q h q = absurd h
layer_holds (Err f) Q h q = ((λ k. absurd (let j : f ≡ NoLayer = cc in cc)), λ n. absurd (n q))

-- a layer that is not there is told so, and one that was found is not told missing
pub layer_missing : {A : Type 0} (Q : Type 0) → (¬ Q) → (◌≡◌ {A = Result A QueryFault} (Err NoLayer) (Err NoLayer)) ↔ (¬ Q)
layer_missing Q n = ((λ e. n), λ k. refl)

pub layer_found : {A : Type 0} (a : A) (Q : Type 0) → Q → (◌≡◌ {A = Result A QueryFault} (Ok a) (Err NoLayer)) ↔ (¬ Q)
layer_found a Q q = ((λ e. cc), λ n. absurd (n q))
