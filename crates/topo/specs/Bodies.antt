-- The bodies of geometries: forms whose lines and rings are lists of used arcs.
use Rattle.std.specs.Prelude.{List}
use Rattle.shapes.specs.declared.form.Form.{Form}
use Rattle.theory.specs.ArcNumbers.{ArcRef}

-- what a geometry is made of [TopoJSON, 2.2]
abbrev pub Body : Type 0
Body = Form (List ArcRef) (List ArcRef)
