-- The box that a topology keeps.
use Rattle.std.specs.Prelude.{List, Option, ◌++◌}
use Rattle.grid.specs.Place.{Transform}
use Rattle.arcs.specs.Arcs.{Arcs}
use Rattle.theory.specs.Lists.{gathered, joined}
use Rattle.topo.specs.Box.{box_of}
use Rattle.topo.specs.Parts.{Corners, LayerParts}
use Rattle.topo.specs.Points.{layer_points}
use Rattle.topo.specs.declared.bounds.Bbox.{Bbox}
use Rattle.topo.specs.declared.bounds.Bbox.TheVariants.{Known, Unknown}

-- the box that was found, and where it is sought the one around the arcs and the points of the layers
abbrev pub kept_box : Transform → Arcs → List LayerParts → Bbox → Option Corners
kept_box g arcs ls (Known b) = b
kept_box g arcs ls Unknown = box_of g (joined arcs.arcs ++ gathered layer_points ls)
