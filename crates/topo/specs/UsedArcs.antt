-- The arcs that bodies and layers use.
use Rattle.std.specs.Prelude.{List}
use Rattle.theory.specs.ArcNumbers.{ArcRef}
use Rattle.theory.specs.Lists.{gathered, joined}
use Rattle.topo.specs.BodyLists.{body_lists}
use Rattle.topo.specs.Bodies.{Body}
use Rattle.topo.specs.Parts.{LayerParts}

-- the used arcs of a body
abbrev pub body_refs : Body → List ArcRef
body_refs b = joined (body_lists b)

-- those of a layer's geometries
abbrev pub layer_refs : LayerParts → List ArcRef
layer_refs l = gathered (λ g. body_refs g.body) l.geometries

-- those of all layers
abbrev pub layers_refs : List LayerParts → List ArcRef
layers_refs ls = gathered layer_refs ls
