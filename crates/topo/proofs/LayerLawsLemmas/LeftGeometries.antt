-- What is left of a map is what its marks leave of it, and so are the geometries that are left of its topology.
use Rattle.std.proofs.Common.{◌≡◌, ℕ, Bool, true, false, cond, not, List, [], ◌∷◌, ◌↔◌, refl, sym, ap, ◌∙◌, subst}
use Rattle.std.specs.Prelude.{map as map_list}
use Rattle.std.specs.FinMap as map
use Rattle.grid.specs.declared.pos.Pos.{Pos}
use Rattle.lines.specs.Turned.{position_cmp}
use Rattle.shapes.specs.Maps.{Features, Layers, features_at}
use Rattle.shapes.specs.Sets as set
use Rattle.chains.specs.Seen as seen_by
use Rattle.chains.specs.Seen.{geometry_of, seen}
use Rattle.theory.specs.Arcs.{AreArcsOf}
use Rattle.theory.specs.Geometry.{JunctionOf}
use Rattle.theory.specs.Lists.{Pairwise}
use Rattle.theory.specs.Refinement.{IsPartOf}
use Rattle.theory.specs.Healing as removing
use Rattle.theory.specs.Healing.{EndsInLayers, IsKept, IsLineEnd, marked}
use Rattle.theory.specs.HealingLaws.{IsLeft}
use Rattle.theory.specs.Validity.{InLayers}
use Rattle.theory.specs.Topology as topology
use Rattle.theory.specs.Topology.{IsLayerOf}
use Rattle.theory.proofs.HealingProved as law
use Rattle.topo.specs.OfMap.{item_of, layer_of}
use Rattle.topo.specs.Parts.{LayerParts}
use Rattle.topo.proofs.Sound.{are_sound}
use Rattle.topo.specs.LayerLaws.Less.{entries_less, entry_less, remaining_layers, less, marks_at, marks_of, without}
use Rattle.topo.proofs.LayerLawsLemmas.LessEntries.{entries_of_less, items_of_less}
use Rattle.topo.proofs.LayerLawsLemmas.RecutGeometries.{order}

-- a list without some members, each seen by g, is what is marked of the list seen by g
mapped_without : {A B : Type 0} (g : A → B) (p : A → Bool) (xs : List A) →
    map_list g (without p xs) ≡ marked (map_list (λ x. not (p x)) xs) (map_list g xs)
mapped_without g p [] = refl
mapped_without {A} {B} g p (x ∷ xs) = go (p x) (mapped_without g p xs)
  where
    go : (b : Bool) {ys : List B} → map_list g (without p xs) ≡ ys → map_list g (cond b (without p xs) (x ∷ without p xs)) ≡ cond (not b) (g x ∷ ys) ys
    go true e = e
    go false e = ap (λ l. g x ∷ l) e

mapped_marked : {A B : Type 0} (g : A → B) (marks : List Bool) (xs : List A) → map_list g (marked marks xs) ≡ marked marks (map_list g xs)
mapped_marked g [] xs = refl
mapped_marked g (b ∷ marks) [] = refl
mapped_marked {A} {B} g (b ∷ marks) (x ∷ xs) = go b (mapped_marked g marks xs)
  where
    go : (b : Bool) {ys : List B} → map_list g (marked marks xs) ≡ ys → map_list g (cond b (x ∷ marked marks xs) (marked marks xs)) ≡ cond b (g x ∷ ys) ys
    go true e = ap (λ l. g x ∷ l) e
    go false e = e

-- a layer seen, what is left of it
layer_seen : (r : Layers) (e : List ℕ × Features) →
    seen_by.layer_of (entry_less r e) ≡ record { name = e.0; items = marked (marks_at r e) (map_list seen_by.item_of (set.items e.1)) }
layer_seen r e =
    ap (λ is. record { name = e.0; items = is })
    (ap (map_list seen_by.item_of) (items_of_less e.1 (features_at r e.0)) ∙ mapped_without seen_by.item_of (set.contains (features_at r e.0)) (set.items e.1))

layers_seen : (r : Layers) (es : List (List ℕ × Features)) →
    map_list seen_by.layer_of (entries_less r es) ≡ removing.less (map_list (marks_at r) es) (map_list seen_by.layer_of es)
layers_seen r [] = refl
layers_seen r (e ∷ es) = λ i. layer_seen r e i ∷ layers_seen r es i

-- a map without another one's features is what the marks leave of it
pub seen_less : (m r : Layers) → seen (less m r) ≡ removing.less (marks_of m r) (seen m)
seen_less m r = ap (map_list seen_by.layer_of) (entries_of_less m r) ∙ layers_seen r (map.entries m)

-- the geometries that are left are those that are marked
pub geometries_seen : (marks : List (List Bool)) (ls : List LayerParts) → map_list layer_of (remaining_layers marks ls) ≡ removing.less marks (map_list layer_of ls)
geometries_seen [] ls = refl
geometries_seen (marks ∷ more) [] = refl
geometries_seen (marks ∷ more) (l ∷ ls) =
    λ i. record { name = (layer_of l).name; items = mapped_marked item_of marks l.geometries i } ∷ geometries_seen more ls i

module _ (m r : Layers) (table : List (List Pos)) (ls : List LayerParts)
    (are : Pairwise (IsLayerOf position_cmp (JunctionOf (geometry_of m)) table) (seen m) (map_list layer_of ls)) where
  -- what is left is a part of the map
  pub less_is_part : IsPartOf (geometry_of (less m r)) (geometry_of m)
  less_is_part =
      subst (λ n. IsPartOf (topology.geometry_of n) (geometry_of m)) (sym (seen_less m r))
      (law.marked_features_are_a_part position_cmp (seen m) (marks_of m r) table (map_list layer_of ls) are).0

  -- the geometries that are left are those of what is left, by the arcs of the map
  pub remaining_geometries : Pairwise (IsLayerOf position_cmp (JunctionOf (geometry_of m)) table) (seen (less m r)) (map_list layer_of (remaining_layers (marks_of m r) ls))
  remaining_geometries =
      subst (λ n. Pairwise (IsLayerOf position_cmp (JunctionOf (geometry_of m)) table) n (map_list layer_of (remaining_layers (marks_of m r) ls))) (sym (seen_less m r))
      (subst (Pairwise (IsLayerOf position_cmp (JunctionOf (geometry_of m)) table) (removing.less (marks_of m r) (seen m))) (sym (geometries_seen (marks_of m r) ls))
      (law.marked_features_are_a_part position_cmp (seen m) (marks_of m r) table (map_list layer_of ls) are).1)

  module _ (arcs : AreArcsOf position_cmp (geometry_of m) table) where
    -- what is left of a map with these arcs
    pub is_left : IsLeft position_cmp (geometry_of (less m r)) (geometry_of m) table
    is_left = record { order = order; sound = are_sound m; arcs = arcs; part = less_is_part }

    -- an arc is kept where a geometry that is left uses it
    pub kept_arcs : (k : ℕ) → IsKept position_cmp (geometry_of (less m r)) (geometry_of m) table k ↔ InLayers (map_list layer_of (remaining_layers (marks_of m r) ls)) k
    kept_arcs =
        (law.kept_by_geometries position_cmp (seen m) (seen (less m r)) table is_left (map_list layer_of (remaining_layers (marks_of m r) ls)) remaining_geometries).0

    -- a line that is left begins or ends where the list of a geometry that is left does
    pub line_ends : (v : Pos) → IsLineEnd (geometry_of (less m r)) table v ↔ EndsInLayers table (map_list layer_of (remaining_layers (marks_of m r) ls)) v
    line_ends =
        (law.kept_by_geometries position_cmp (seen m) (seen (less m r)) table is_left (map_list layer_of (remaining_layers (marks_of m r) ls)) remaining_geometries).1
