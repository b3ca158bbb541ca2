use Rattle.std.proofs.Common.{◌≡◌, ◌++◌, drop}
use Rattle.normalize.specs.Repeats.{long_refs}
use Rattle.normalize.proofs.repeats.LongArcs.long_refs.Given as goal

abbrev pub invariant-loop-arc : goal.invariant-loop-arc
invariant-loop-arc l = l.refs.items ++ long_refs l.fn.self.arcs.now (drop l.arc-index l.fn.used) ≡ long_refs l.fn.self.arcs.now l.fn.used
