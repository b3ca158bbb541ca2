use Rattle.std.proofs.Common.{◌≡◌, drop}
use Rattle.normalize.specs.Repeats.{some_repeats}
use Rattle.normalize.proofs.repeats.some_repeats.Given as goal

abbrev pub invariant-loop-arc : goal.invariant-loop-arc
invariant-loop-arc l = some_repeats (drop l.arc-index l.fn.arcs) ≡ some_repeats l.fn.arcs
