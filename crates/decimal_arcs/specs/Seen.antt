-- The table of arcs.
use Rattle.std.specs.Prelude.{List, map, Option, option_map, Vec}
use Rattle.std.specs.declared.alloc.Global.{Global}
use Rattle.decimal_arcs.specs.declared.place.Place.{Place}

-- the arcs by their numbers: their places, none of an arc that isn't used or has a fault
abbrev pub Arcs : Type 0
Arcs = List (Option (List Place))

-- the arcs of a table
abbrev pub seen_arcs : List (Option (Vec Place Global)) → Arcs
seen_arcs = map (option_map (λ ps. ps.items))
