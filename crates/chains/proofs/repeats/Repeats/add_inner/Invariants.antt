use Rattle.std.proofs.Common.{◌++◌, drop, List}
use Rattle.theory.specs.Lists.{gathered}
use Rattle.chains.specs.Noted.{visits_at}
use Rattle.chains.specs.Repeats.{AreRecorded}
use Rattle.chains.specs.declared.visits.Visit.{Visit}
use Rattle.chains.proofs.repeats.Repeats.add_inner.Given as goal

abbrev pub invariant-loop-window : goal.invariant-loop-window
invariant-loop-window l = (all later : List Visit) → AreRecorded l.fn.self all (gathered visits_at l.fn.inner ++ later) → AreRecorded l.self all (gathered visits_at (drop l.window-index l.fn.inner) ++ later)
