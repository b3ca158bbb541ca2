use Rattle.std.proofs.Common.{◌≡◌, ◌++◌, drop}
use Rattle.theory.specs.Lists.{gathered}
use Rattle.validate.specs.FreeLoops.{ends_once}
use Rattle.validate.proofs.loops.add_all_ends.Given as goal

abbrev pub invariant-loop-arc : goal.invariant-loop-arc
invariant-loop-arc l = l.ends.items ++ gathered ends_once (drop l.arc-index l.arcs) ≡ l.fn.ends.items ++ gathered ends_once l.arcs
