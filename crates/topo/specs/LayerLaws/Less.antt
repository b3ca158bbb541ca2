-- A map without the features of another one, and what is left of the geometries of its topology.
use Rattle.std.specs.Prelude.{◌≡◌, ℕ, Bool, true, false, not, cond, List, [], ◌∷◌, map as map_list}
use Rattle.std.specs.FinMap as map
use Rattle.grid.specs.declared.pos.Pos.{Pos}
use Rattle.lines.specs.Turned.{position_cmp}
use Rattle.shapes.specs.Maps.{Features, Layers, features_at}
use Rattle.shapes.specs.Sets as set
use Rattle.shapes.specs.declared.feature.Feature.{Feature}
use Rattle.theory.specs.Healing.{Starts, marked, healed_list, healed_ring_list}
use Rattle.topo.specs.Parts.{LayerParts}
use Rattle.topo.specs.declared.geom.Geom.{Geom}
use Rattle.topo.specs.Rewritten.{geometry_rewritten, layer_rewritten}

-- the members of a list for which the answer is no
abbrev pub without : {A : Type 0} → (A → Bool) → List A → List A
without p [] = []
without p (x ∷ xs) = cond (p x) (without p xs) (x ∷ without p xs)

-- the features of the one set that are not in the other
abbrev pub features_less : Features → Features → Features
features_less s t = set.from_list (without (set.contains t) (set.items s))

-- a layer without the features that r has under its name
abbrev pub entry_less : Layers → List ℕ × Features → List ℕ × Features
entry_less r e = (e.0, features_less e.1 (features_at r e.0))

abbrev pub entries_less : Layers → List (List ℕ × Features) → List (List ℕ × Features)
entries_less r es = map_list (entry_less r) es

-- the map without the features that r has under the same layer names; layers keep their names, also when they are empty
unfoldable pub less : Layers → Layers → Layers
less m r = map.from_entries (entries_less r (map.entries m))

-- each layer of r is one of m, and no feature of r's is there
pub record IsApart (m r : Layers) : Type 0 where
  pub names : (q : List ℕ) → map.contains_key r q ≡ true → map.contains_key m q ≡ true
  pub features : (q : List ℕ) (f : Feature) → set.contains (features_at r q) f ≡ true → set.contains (features_at m q) f ≡ false

-- of each feature of a layer, in order, whether it stays
abbrev pub marks_at : Layers → List ℕ × Features → List Bool
marks_at r e = map_list (λ f. not (set.contains (features_at r e.0) f)) (set.items e.1)

-- layer by layer, which features of m stay without those of r
abbrev pub marks_of : Layers → Layers → List (List Bool)
marks_of m r = map_list (marks_at r) (map.entries m)

-- layer by layer, those geometries that are marked
abbrev pub remaining_layers : List (List Bool) → List LayerParts → List LayerParts
remaining_layers [] ls = []
remaining_layers (marks ∷ more) [] = []
remaining_layers (marks ∷ more) (l ∷ ls) = record { name = l.name; geometries = marked marks l.geometries } ∷ remaining_layers more ls

-- a geometry by the arcs that the old ones are joined to: its id and its properties stay
abbrev pub geometry_over_healed : List (List Pos) → Starts → Geom → Geom
geometry_over_healed arcs starts = geometry_rewritten (healed_list starts 0) (healed_ring_list position_cmp arcs starts)

-- a layer of such geometries
abbrev pub layer_over_healed : List (List Pos) → Starts → LayerParts → LayerParts
layer_over_healed arcs starts = layer_rewritten (healed_list starts 0) (healed_ring_list position_cmp arcs starts)
