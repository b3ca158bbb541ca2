-- Geometries and layers of a topology whose lists of used arcs become other lists.
use Rattle.std.specs.Prelude.{map as map_list}
use Rattle.arcs.specs.ListRules.{ListRule}
use Rattle.topo.specs.Parts.{LayerParts}
use Rattle.topo.specs.Bodies.{Body}
use Rattle.shapes.specs.Forms.{form_map}
use Rattle.topo.specs.declared.geom.Geom.{Geom}

-- a body whose lines' lists become other ones by the first rule, and its rings' lists by the second
abbrev pub body_rewritten : ListRule → ListRule → Body → Body
body_rewritten line ring b = form_map line ring b

-- a geometry of such a body: its id and its properties stay
abbrev pub geometry_rewritten : ListRule → ListRule → Geom → Geom
geometry_rewritten line ring g = record { id = g.id; props = g.props; body = body_rewritten line ring g.body }

-- a layer of such geometries, in their order
abbrev pub layer_rewritten : ListRule → ListRule → LayerParts → LayerParts
layer_rewritten line ring l = record { name = l.name; geometries = map_list (geometry_rewritten line ring) l.geometries }
