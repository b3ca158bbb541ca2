-- Ends of arcs that are among some vertices, or apart from them.
use Rattle.std.specs.Prelude.{Bool, true, not, ◌&&◌, ◌||◌, List, [], ◌∷◌}
use Rattle.std.specs.List.{list_all}
use Rattle.grid.specs.declared.pos.Pos.{Pos}
use Rattle.theory.specs.Lists.{last_of}
use Rattle.arcs.specs.Among.{among}
use Rattle.arcs.specs.Arcs.{Arcs}
use Rattle.arcs.specs.Table.{with_loops}
use Rattle.validate.specs.declared.end_tests.EndsHaveToBe.{EndsHaveToBe}
use Rattle.validate.specs.declared.end_tests.EndsHaveToBe.TheVariants.{Among, Apart}

-- whether a vertex is where it has to be, where it is known whether it is among them
abbrev pub is_as : EndsHaveToBe → Bool → Bool
is_as Among found = found
is_as Apart found = not found

-- whether both ends of an arc are where they have to be
abbrev pub both_are : EndsHaveToBe → List Pos → List Pos → Bool
both_are ends sorted [] = true
both_are ends sorted (x ∷ r) = is_as ends (among sorted x) && is_as ends (among sorted (last_of x r))

-- whether the ends of an arc that may be a free loop are; a free loop has no ends
abbrev pub ends_are : EndsHaveToBe → List Pos → List Pos × Bool → Bool
ends_are ends sorted a = a.1 || both_are ends sorted a.0

-- whether those of each arc of a table are
abbrev pub each_ends : EndsHaveToBe → List Pos → Arcs → Bool
each_ends ends sorted t = list_all (ends_are ends sorted) (with_loops t)
