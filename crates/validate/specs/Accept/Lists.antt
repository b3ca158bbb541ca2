-- The lists of used arcs that layers have, of their lines and of their rings.
use Rattle.std.specs.Prelude.{List}
use Rattle.theory.specs.ArcNumbers.{ArcRef}
use Rattle.theory.specs.Lists.{gathered}
use Rattle.topo.specs.BodyLists.{body_lines, body_rings}
use Rattle.topo.specs.Parts.{LayerParts}
use Rattle.topo.specs.declared.geom.Geom.{Geom}

-- the list of each line of geometries
abbrev pub lines_of : List Geom → List (List ArcRef)
lines_of gs = gathered (λ g. body_lines g.body) gs

-- the list of each ring of geometries
abbrev pub rings_of : List Geom → List (List ArcRef)
rings_of gs = gathered (λ g. body_rings g.body) gs

-- those of a layer's geometries [TopoJSON, 2.1.4]
abbrev pub layer_lines : LayerParts → List (List ArcRef)
layer_lines l = lines_of l.geometries

-- the list of each ring of a layer's geometries [TopoJSON, 2.1.4]
abbrev pub layer_rings : LayerParts → List (List ArcRef)
layer_rings l = rings_of l.geometries

-- those of all layers [TopoJSON, 2.1.4]
abbrev pub layers_lines : List LayerParts → List (List ArcRef)
layers_lines ls = gathered layer_lines ls

-- the list of each ring of all layers [TopoJSON, 2.1.4]
abbrev pub layers_rings : List LayerParts → List (List ArcRef)
layers_rings ls = gathered layer_rings ls
