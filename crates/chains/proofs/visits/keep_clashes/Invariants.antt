use Rattle.std.proofs.Common.{◌≡◌, ◌++◌, drop}
use Rattle.chains.specs.Visits.{clashes_from, clashes_of}
use Rattle.chains.proofs.visits.keep_clashes.Given as goal

abbrev pub invariant-loop-visit : goal.invariant-loop-visit
invariant-loop-visit l = l.kept.items ++ clashes_from l.before (drop l.visit-index l.others) ≡ l.fn.kept.items ++ clashes_of l.fn.visits
