-- Where the lines of the geometries that stay begin and end.
use Rattle.std.specs.Prelude.{List}
use Rattle.grid.specs.declared.pos.Pos.{Pos}
use Rattle.theory.specs.Lists.{gathered}
use Rattle.topo.specs.BodyLists.{body_lines}
use Rattle.topo.specs.Bodies.{Body}
use Rattle.topo.specs.Parts.{LayerParts}
use Rattle.topo.specs.LayerLaws.LeftLists.{line_ends}

-- the ends of a body's lines
abbrev pub body_ends : List (List Pos) → Body → List Pos
body_ends arcs b = gathered (line_ends arcs) (body_lines b)

-- those of a layer's geometries
abbrev pub layer_ends : List (List Pos) → LayerParts → List Pos
layer_ends arcs l = gathered (λ g. body_ends arcs g.body) l.geometries

-- those of all layers
abbrev pub layers_ends : List (List Pos) → List LayerParts → List Pos
layers_ends arcs ls = gathered (layer_ends arcs) ls
