use Rattle.std.proofs.Common.{◌++◌, drop, List}
use Rattle.chains.specs.Repeats.{AreRecorded}
use Rattle.chains.specs.declared.visits.Visit.{Visit}
use Rattle.chains.proofs.repeats.Repeats.add_visits.Given as goal

abbrev pub invariant-loop-visit : goal.invariant-loop-visit
invariant-loop-visit l = (all later : List Visit) → AreRecorded l.fn.self all (l.fn.visits ++ later) → AreRecorded l.self all (drop l.visit-index l.fn.visits ++ later)
