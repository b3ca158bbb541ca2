-- The parts of a map's topology, with the box around the arcs and points, are the topology of the map.
use Rattle.std.proofs.Common.{◌≡◌, List, ◌++◌, refl, sym, ◌∙◌, subst}
use Rattle.grid.specs.Place.{Transform}
use Rattle.shapes.specs.Maps.{Layers}
use Rattle.arcs.specs.Arcs.{Arcs}
use Rattle.chains.specs.Seen.{seen}
use Rattle.theory.specs.Lists.{gathered, joined}
use Rattle.theory.specs.Topology.{positions_of}
use Rattle.topo.specs.Box.{box_of}
use Rattle.topo.specs.Kept.{kept_box}
use Rattle.topo.specs.OfMap.{ArePartsOf, IsOf, IsOfSomeMap}
use Rattle.topo.specs.Parts.{LayerParts, TopologyParts}
use Rattle.topo.specs.Points.{layer_points}
use Rattle.topo.specs.declared.bounds.Bbox.{Bbox}
use Rattle.topo.proofs.Boxes.{box_same}
use Rattle.topo.proofs.Positions.{positions_kept, positions_found}
use Rattle.topo.proofs.Sound.{are_sound}

pub of_parts : (m : Layers) (t : TopologyParts) → ArePartsOf m t.arcs t.layers →
    t.bbox ≡ box_of t.grid (joined t.arcs.arcs ++ gathered layer_points t.layers) → IsOf m t
of_parts m t parts e = record {
  topology = record {
    grid = refl;
    arcs = parts.table.arcs;
    layers = parts.layers;
    bbox = e ∙ sym (box_same t.grid (positions_of (seen m)) (joined t.arcs.arcs ++ gathered layer_points t.layers)
        (positions_kept m t.arcs t.layers parts (are_sound m)) (positions_found m t.arcs t.layers parts (are_sound m)));
  };
  table = parts.table;
}

-- a box that is kept for the same arcs and layers is that of the parts too
pub kept_for : (g : Transform) (arcs : Arcs) (k l : List LayerParts) (b : Bbox) → k ≡ l →
    kept_box g arcs k b ≡ box_of g (joined arcs.arcs ++ gathered layer_points k) → kept_box g arcs l b ≡ box_of g (joined arcs.arcs ++ gathered layer_points l)
kept_for g arcs k l b e h = subst (λ w. kept_box g arcs w b ≡ box_of g (joined arcs.arcs ++ gathered layer_points w)) e h

abbrev parts_with : Transform → Arcs → List LayerParts → Bbox → TopologyParts
parts_with g a k x = record { grid = g; arcs = a; layers = k; bbox = kept_box g a k x }

-- equal parts are those of some map too
pub same_parts : (g : Transform) (a b : Arcs) (k l : List LayerParts) (x : Bbox) → IsOfSomeMap (parts_with g a k x) → a ≡ b → k ≡ l →
    IsOfSomeMap (parts_with g b l x)
same_parts g a b k l x h e f = subst (λ w. IsOfSomeMap (parts_with g w l x)) e (subst (λ w. IsOfSomeMap (parts_with g a w x)) f h)
