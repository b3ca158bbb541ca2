-- What is checked of arcs as a text has them.
use Rattle.std.specs.Prelude.{◌≡◌, Bool, true, false, cond, ◌&&◌, ◌↔◌, List, [], ◌∷◌, reverse}
use Rattle.std.specs.List.{list_all}
use Rattle.std.specs.Ordering.{is_lt, is_gt}
use Rattle.std.specs.declared.cmp.Ordering.TheVariants.{Less}
use Rattle.grid.specs.declared.pos.Pos.{Pos}
use Rattle.lines.specs.Reading.{is_closed}
use Rattle.lines.specs.Turned.{list_cmp, position_cmp}
use Rattle.theory.specs.Arcs.{Ascends}
use Rattle.theory.specs.Geometry.{IsSound}
use Rattle.theory.specs.Lists.{Has}
use Rattle.theory.specs.Refinement.{unclosed}
use Rattle.theory.specs.Validity.{ArcsAreNoded, inner_of}
use Rattle.arcs.specs.Arcs.{Arcs}
use Rattle.chains.specs.OfArcs.{table_as_map}
use Rattle.arcs.specs.Table.{IsTableOf, marked, with_loops}

-- arcs as they are, of which those that are marked are free loops
abbrev pub table_read : List (List Pos) → List Bool → Arcs
table_read arcs free = record { arcs = arcs; loops = marked arcs free }

-- whether the arc comes before its own reverse
abbrev pub is_forward : List Pos → Bool
is_forward c = is_gt (list_cmp (reverse c) c)

-- the same of each arc
abbrev pub each_forward : List (List Pos) → Bool
each_forward arcs = list_all is_forward arcs

-- each arc comes before those behind it, and before its own reverse
pub record AreInOrder (arcs : List (List Pos)) : Type 0 where
  pub sorted : Ascends list_cmp arcs
  pub forward : (c : List Pos) → Has c arcs → list_cmp c (reverse c) ≡ Less

-- whether no vertex of the list comes before x
abbrev pub none_before : Pos → List Pos → Bool
none_before x [] = true
none_before x (y ∷ l) = cond (is_lt (position_cmp y x)) false (none_before x l)

-- whether no vertex comes before the first
abbrev pub begins_least : List Pos → Bool
begins_least [] = true
begins_least (x ∷ l) = none_before x l

-- what is looked at in an arc alone, which may be a free loop
abbrev pub is_valid_arc : List Pos × Bool → Bool
is_valid_arc a = cond (is_forward a.0) (cond a.1 (is_closed position_cmp a.0 && begins_least a.0) true) false

-- whether each arc of a table is valid alone
abbrev pub arcs_are_valid : Arcs → Bool
arcs_are_valid t = list_all is_valid_arc (with_loops t)

-- the vertices inside an arc, those of a free loop all
abbrev pub arc_inside : List Pos × Bool → List Pos
arc_inside a = cond a.1 (unclosed a.0) (inner_of a.0)

-- the answer is whether the arcs, where they are in order, are apart
abbrev pub IsApart : Bool → Arcs → Type 0
IsApart b t = Ascends list_cmp t.arcs → (b ≡ true) ↔ ArcsAreNoded position_cmp t.arcs (table_as_map t)

-- arcs that are apart are those of the map that has the free loops as its rings and the other arcs as its lines
abbrev pub ApartArcsAreTheirMaps : Type 0
ApartArcsAreTheirMaps = (t : Arcs) → ArcsAreNoded position_cmp t.arcs (table_as_map t) → IsSound (table_as_map t) × IsTableOf (table_as_map t) t
