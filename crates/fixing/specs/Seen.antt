-- What contracts see of lists of polygons.
use Rattle.std.specs.Prelude.{List, map, Vec}
use Rattle.std.specs.declared.alloc.Global.{Global}
use Rattle.grid.specs.declared.pos.Pos.{Pos}

-- the rings of some polygons, as lists
abbrev pub polygons_in : List (Vec (List Pos) Global) → List (List (List Pos))
polygons_in polygons = map (λ polygon. polygon.items) polygons
