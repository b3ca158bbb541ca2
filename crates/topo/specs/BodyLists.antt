-- The lists of used arcs of a body.
use Rattle.std.specs.Prelude.{List}
use Rattle.shapes.specs.Forms.{lines_in, parts_in, rings_in}
use Rattle.theory.specs.ArcNumbers.{ArcRef}
use Rattle.topo.specs.Bodies.{Body}

-- the list of each line of a body [TopoJSON, 2.1.4]
abbrev pub body_lines : Body → List (List ArcRef)
body_lines b = lines_in b

-- the list of each ring of a body [TopoJSON, 2.1.4]
abbrev pub body_rings : Body → List (List ArcRef)
body_rings b = rings_in b

-- the list of each line or ring of a body [TopoJSON, 2.1.4]
abbrev pub body_lists : Body → List (List ArcRef)
body_lists b = parts_in b
