-- Where lists of used arcs begin and end.
use Rattle.std.specs.Prelude.{cond, List, [], ◌∷◌, Option, Some, None}
use Rattle.grid.specs.declared.pos.Pos.{Pos}
use Rattle.lines.specs.Pairs.{position_eq}
use Rattle.theory.specs.ArcNumbers.{ArcRef}
use Rattle.arcs.specs.Ends.{ends_along, first_end}

-- where arcs with these ends lead from a vertex
abbrev pub next_from : Pos → Option (Pos × Pos) → Option Pos
next_from here None = None
next_from here (Some e) = cond (position_eq e.0 here) (Some e.1) None

-- what comes of the next vertex, where there is one
abbrev pub gone_on : Option Pos → (Pos → Option Pos) → Option Pos
gone_on None more = None
gone_on (Some v) more = more v

-- where used arcs end that begin at a vertex, each where the one before it ends [TopoJSON, 2.1.4]
abbrev pub run_from : List (List Pos) → Pos → List ArcRef → Option Pos
run_from arcs here [] = Some here
run_from arcs here (a ∷ refs) = gone_on (next_from here (ends_along arcs a)) (λ v. run_from arcs v refs)

-- where a list of used arcs begins [TopoJSON, 2.1.4]
abbrev pub start_of : List (List Pos) → List ArcRef → Option Pos
start_of arcs [] = None
start_of arcs (a ∷ refs) = first_end (ends_along arcs a)
