-- The first two positions of a list.
use Rattle.std.specs.Prelude.{List, Bool, ◌&&◌, slice_get}
use Rattle.std.specs.Option.{option_cmp, option_eq}
use Rattle.std.specs.Ordering.{ordering_then}
use Rattle.std.specs.declared.cmp.Ordering.{Ordering}
use Rattle.grid.specs.declared.pos.Pos.{Pos}
use Rattle.lines.specs.Pairs.{position_eq}
use Rattle.lines.specs.Turned.{position_cmp}
use Rattle.arcs.specs.declared.key.Key.{Key}

-- the first two positions of a list
abbrev pub key_of : List Pos → Key
key_of l = record { first = slice_get l 0; second = slice_get l 1 }

-- by the first position, then by the second
abbrev pub key_cmp : Key → Key → Ordering
key_cmp a b = ordering_then (option_cmp position_cmp a.first b.first) (option_cmp position_cmp a.second b.second)

-- whether two have equal positions
abbrev pub key_eq : Key → Key → Bool
key_eq a b = option_eq position_eq a.first b.first && option_eq position_eq a.second b.second
