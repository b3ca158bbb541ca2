-- The layer of a name in a topology, and in its map.
use Rattle.std.proofs.Common.{◌≡◌, ℕ, Bool, true, false, cond, List, [], ◌∷◌, ◌++◌, inl, inr, refl, sym, ap, ◌∙◌, subst, codes, is_some, Some}
use Rattle.std.specs.Cmp.Lexicographic.{slice_cmp, nat_list_cmp_total}
use Rattle.std.specs.FinMap as map
use Rattle.std.specs.Ordering.{is_eq, nat_cmp}
use Rattle.std.specs.declared.cmp.Ordering.{Ordering}
use Rattle.std.specs.declared.cmp.Ordering.TheVariants.{Less, Equal, Greater}
use Rattle.lines.specs.Turned.{position_cmp}
use Rattle.shapes.specs.Maps.{Features, Layers, features_at}
use Rattle.shapes.specs.OrderLaws.{same_text}
use Rattle.shapes.specs.Parts.{spelled_text}
use Rattle.shapes.specs.Sets as set
use Rattle.sinks.specs.Texts.{joined, framed}
use Rattle.geojson_io.specs.CollectionText.{feature_text, collection_text}
use Rattle.theory.specs.Geometry.{JunctionOf}
use Rattle.theory.specs.Lists.{Has, Pairwise}
use Rattle.theory.specs.Topology.{IsLayerOf}
use Rattle.theory.proofs.UsersOfArcs.{partner, partner_back}
use Rattle.chains.specs.Seen as seen_by
use Rattle.topo.specs.OfMap.{IsOf, layer_of}
use Rattle.topo.specs.Parts.{IsOfLayerNamed, LayerParts, TopologyParts}
use Rattle.topo.specs.declared.geom.Geom.{Geom}
use Rattle.topo.proofs.Pairs.{Pairwise-mapped}
use Rattle.shapes.proofs.Entries.{at_entry, found}
use Rattle.query.specs.ByArcs.{geom_text}
use Rattle.query.proofs.Texts.{features_same}

-- ---- entries of a map

pub contains_entry : (m : Layers) (e : List ℕ × Features) → Has e (map.entries m) → map.contains_key m e.0 ≡ true
contains_entry m e h = ap is_some (map.get-entries m e.0 ∙ found (slice_cmp nat_cmp) nat_list_cmp_total (map.entries m) (map.entries_sorted m) e h)

if_equal : (r : Ordering) → is_eq r ≡ true → r ≡ Equal
if_equal Less e = cc
if_equal Equal e = refl
if_equal Greater e = cc

entry_there : (es : List (List ℕ × Features)) (q : List ℕ) → is_some (map.find (slice_cmp nat_cmp) q es) ≡ true → (e : List ℕ × Features) × Has e es × (q ≡ e.0)
entry_there [] q h = absurd cc
entry_there (d ∷ es) q h = go (is_eq (slice_cmp nat_cmp q d.0)) refl h (entry_there es q)
  where
    go : (b : Bool) → is_eq (slice_cmp nat_cmp q d.0) ≡ b → is_some (cond b (Some d.1) (map.find (slice_cmp nat_cmp) q es)) ≡ true →
        (is_some (map.find (slice_cmp nat_cmp) q es) ≡ true → (e : List ℕ × Features) × Has e es × (q ≡ e.0)) →
        (e : List ℕ × Features) × Has e (d ∷ es) × (q ≡ e.0)
    go true p k ih = (d, inl refl, same_text q d.0 (if_equal (slice_cmp nat_cmp q d.0) p))
    go false p k ih = let t = ih k in (t.0, inr t.1, t.2)

-- ---- layers

abbrev pub Goes : Layers → TopologyParts → (List ℕ × Features) → LayerParts → Type 0
Goes m t e l = IsLayerOf position_cmp (JunctionOf (seen_by.geometry_of m)) t.arcs.arcs (seen_by.layer_of e) (layer_of l)

pub beside : (m : Layers) (t : TopologyParts) → IsOf m t → Pairwise (Goes m t) (map.entries m) t.layers
beside m t is = Pairwise-mapped (IsLayerOf position_cmp (JunctionOf (seen_by.geometry_of m)) t.arcs.arcs) seen_by.layer_of layer_of (map.entries m) t.layers is.topology.layers

-- the text of the geometries of a name is that of the map's features there
pub record IsLayerText (m : Layers) (t : TopologyParts) (name : List ℕ) (gs : List Geom) : Type 0 where
  pub there : map.contains_key m name ≡ true
  pub text :
      framed (geom_text t) (codes "{\"features\":[") gs (codes "],\"type\":\"FeatureCollection\"}") ≡ collection_text t.grid (set.items (features_at m name))

pub layer_text_is : (m : Layers) (t : TopologyParts) (name : List ℕ) (gs : List Geom) → IsOf m t → IsOfLayerNamed t.layers name gs → IsLayerText m t name gs
layer_text_is m t name gs is (l, there, named, geometries) =
    let b : (e : List ℕ × Features) × Has e (map.entries m) × Goes m t e l =
    partner_back (Goes m t) (map.entries m) t.layers (beside m t is) l there in
    let e = b.0 in
    let name_is : e.0 ≡ name = b.2.name ∙ named in
    let at : features_at m name ≡ e.1 = subst (λ w. features_at m w ≡ e.1) name_is (at_entry m e b.1) in
    record {
      there = subst (λ w. map.contains_key m w ≡ true) name_is (contains_entry m e b.1);
      text =
          ap (λ w. codes "{\"features\":[" ++ (w ++ codes "],\"type\":\"FeatureCollection\"}"))
          (ap (joined (geom_text t)) geometries
          ∙ sym (features_same t (JunctionOf (seen_by.geometry_of m)) (set.items e.1) l.geometries b.2.items)
          ∙ ap (λ s. joined (feature_text t.grid) (set.items s)) (sym at));
    }

pub no_layer_is : (m : Layers) (t : TopologyParts) (name : List ℕ) → IsOf m t → ((l : LayerParts) → Has l t.layers → ¬ (spelled_text l.name ≡ name)) →
    map.contains_key m name ≡ false
no_layer_is m t name is none = go (map.contains_key m name) refl
  where
    go : (b : Bool) → map.contains_key m name ≡ b → b ≡ false
    go false e = refl
    go true e =
        let k = entry_there (map.entries m) name (ap is_some (sym (map.get-entries m name)) ∙ e) in
        let b : (l : LayerParts) × Has l t.layers × Goes m t k.0 l =
        partner (Goes m t) (map.entries m) t.layers (beside m t is) k.0 k.1 in
        absurd (none b.0 b.1 (sym b.2.name ∙ sym k.2))
