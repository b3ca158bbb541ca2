-- What geometries are sorted by: their bodies, with the steps of a list in the list's place.
use Rattle.std.specs.Prelude.{List, Option}
use Rattle.std.specs.Ordering.{ordering_then}
use Rattle.std.specs.declared.cmp.Ordering.{Ordering}
use Rattle.grid.specs.declared.pos.Pos.{Pos}
use Rattle.shapes.specs.Forms.{form_map}
use Rattle.shapes.specs.Order.{form_cmp}
use Rattle.topo.specs.GeometryOrder.{info_cmp}
use Rattle.topo.specs.declared.geom.Geom.{Geom}
use Rattle.topo.specs.GeometryOrder.Lists.{line_key, ring_key, steps_cmp}
use Rattle.topo.specs.declared.geometry_order.least.LeastSteps.{LeastSteps}
use Rattle.topo.specs.declared.geometry_order.sorting.Keyed.{Keyed}

-- a geometry with its key
abbrev pub keyed : List (List Pos) → List (Option LeastSteps) → Geom → Keyed
keyed arcs least g = record { geometry = g; key = form_map (line_key arcs) (ring_key arcs least) g.body }

-- by id, properties and key
abbrev pub keyed_cmp : Keyed → Keyed → Ordering
keyed_cmp a b = ordering_then (info_cmp a.geometry b.geometry) (form_cmp steps_cmp steps_cmp a.key b.key)

-- geometries over arcs with these least steps, by their keys
abbrev pub by_key : List (List Pos) → List (Option LeastSteps) → Geom → Geom → Ordering
by_key arcs least g h = keyed_cmp (keyed arcs least g) (keyed arcs least h)
