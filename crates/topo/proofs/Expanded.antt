-- Expanding a topology: one more layer.
use Rattle.std.proofs.Common.{◌≡◌, ◌≤◌, ◌<◌, ◌+◌, ℕ, List, length, get_or, drop, sym, ap, ◌∙◌, subst}
use Rattle.std.specs.FinMap as map
use Rattle.shapes.specs.Maps.{Layers, with_features}
use Rattle.shapes.specs.Parts.{spelled_text}
use Rattle.shapes.specs.Sets as set
use Rattle.shapes.specs.declared.feature.Feature.{Feature}
use Rattle.theory.specs.Lists.{Pairwise}
use Rattle.topo.specs.Features.{AreFeaturesOf}
use Rattle.topo.specs.OfMap.{IsOf, IsOfSomeMap}
use Rattle.topo.specs.Parts.{LayerParts, TopologyParts}
use Rattle.topo.proofs.Filling.{all_entries, all_members, with_entries}
use Rattle.topo.proofs.Pairs.{none_behind, pair_at}
use Rattle.topo.proofs.Stitched.{IsEntryOf, entries_of}

module _ (t : TopologyParts) (items : List LayerParts) (same : items ≡ t.layers) (i : ℕ) where
  pub features_within : (l : LayerParts) → IsOfSomeMap t → i < length items → l ≡ get_or items i l → (fs : List Feature) × AreFeaturesOf t.arcs.arcs fs l.geometries
  features_within l (m, h) k e =
      let (d, _, r) = pair_at (IsEntryOf t.arcs.arcs) (map.entries m) items i l (subst (Pairwise (IsEntryOf t.arcs.arcs) (map.entries m)) (sym same) (entries_of m t h)) k e in
      (set.items d.1, r.items)

  pub layer_step : (m old new start : Layers) (l : LayerParts) → IsOf m t → i < length items → l ≡ get_or items i l →
      ((fs : List Feature) → AreFeaturesOf t.arcs.arcs fs l.geometries →
      new ≡ with_features old (spelled_text l.name) (set.from_list fs)) →
      with_entries old (drop i (map.entries m)) ≡ start → with_entries new (drop (i + 1) (map.entries m)) ≡ start
  layer_step m old new start l h k e put left =
      let (d, parted, r) = pair_at (IsEntryOf t.arcs.arcs) (map.entries m) items i l (subst (Pairwise (IsEntryOf t.arcs.arcs) (map.entries m)) (sym same) (entries_of m t h)) k e in
      ap (λ w. with_entries w (drop (i + 1) (map.entries m)))
      (put (set.items d.1) r.items ∙ (λ j. with_features old (sym r.name j) (all_members d.1 j)))
      ∙ ap (with_entries old) (sym parted) ∙ left

  pub layers_done : (m made : Layers) → IsOf m t → length items ≤ i → with_entries made (drop i (map.entries m)) ≡ with_entries map.empty (map.entries m) → made ≡ m
  layers_done m made h k left =
      ap (with_entries made)
      (sym (none_behind (IsEntryOf t.arcs.arcs) (map.entries m) items i (subst (Pairwise (IsEntryOf t.arcs.arcs) (map.entries m)) (sym same) (entries_of m t h)) k))
      ∙ left ∙ all_entries m
