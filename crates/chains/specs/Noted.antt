-- The visits that were noted while lines and rings were seen.
use Rattle.std.specs.Borrow.{Bor}
use Rattle.std.specs.Prelude.{List, ◌++◌}
use Rattle.theory.specs.Lists.{gathered}
use Rattle.grid.specs.declared.pos.Pos.{Pos}
use Rattle.chains.specs.Visits.{inner_of}
use Rattle.chains.specs.declared.visits.Visit.{Visit}
use Rattle.chains.specs.declared.visits.VisitsSeen.{VisitsSeen}

-- the visit of a place between two others of a list
abbrev pub visits_at : Bor (List Pos) → List Visit
visits_at w = inner_of w.now

-- the visits of such places, and those across the ends of rings
abbrev pub recorded_in : List (Bor (List Pos)) → List Visit → List Visit
recorded_in inner seams = gathered visits_at inner ++ seams

-- the visits that were noted
abbrev pub visits_recorded : VisitsSeen → List Visit
visits_recorded s = recorded_in s.inner.items s.seams.items
