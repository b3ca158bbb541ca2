-- The two neighbours of each vertex, noted from the segments one by one.
use Rattle.std.specs.Prelude.{cond, List, [], ◌∷◌, Option, Some, None}
use Rattle.std.specs.Ordering.{is_eq}
use Rattle.grid.specs.declared.pos.Pos.{Pos}
use Rattle.lines.specs.Turned.{position_cmp}
use Rattle.lines.specs.Pairs.{position_eq}
use Rattle.arcs.specs.Among.{among}
use Rattle.chains.specs.declared.segment.Segment.{Segment}

-- the neighbours noted before, and one more
abbrev pub joined : Option (Pos × Pos) → Pos → Pos × Pos
joined None n = (n, n)
joined (Some p) n = cond (position_eq p.0 n) p (p.0, n)

-- what is noted for q, once `to` is met as a neighbour of `at`
abbrev pub recorded : List Pos → Pos → Option (Pos × Pos) → Pos → Pos → Option (Pos × Pos)
recorded stops q o at to = cond (among stops at) o (cond (is_eq (position_cmp at q)) (Some (joined o to)) o)

-- what is noted for q, once the segments are met
abbrev pub recorded_all : List Pos → Pos → Option (Pos × Pos) → List Segment → Option (Pos × Pos)
recorded_all stops q o [] = o
recorded_all stops q o (s ∷ ss) = recorded_all stops q (recorded stops q (recorded stops q o s.ends.lesser s.ends.greater) s.ends.greater s.ends.lesser) ss
