-- The shapes of features, as geometries of lines and rings.
use Rattle.lines.specs.declared.line.Line as the_line
use Rattle.lines.specs.declared.ring.Ring as the_ring
use Rattle.shapes.specs.declared.form.Form.{Form}

-- the shape of a feature [RFC 7946, 3.1]
abbrev pub Shape : Type 0
Shape = Form the_line.Line the_ring.Ring
