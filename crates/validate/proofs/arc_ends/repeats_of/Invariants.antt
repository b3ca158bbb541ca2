use Rattle.std.proofs.Common.{◌≡◌, ◌++◌, drop}
use Rattle.validate.specs.ArcEnds.{again, again_from}
use Rattle.validate.proofs.arc_ends.repeats_of.Given as goal

abbrev pub invariant-loop-vertex : goal.invariant-loop-vertex
invariant-loop-vertex l = l.found.items ++ again_from l.before (drop l.vertex-index l.others) ≡ again l.fn.sorted
