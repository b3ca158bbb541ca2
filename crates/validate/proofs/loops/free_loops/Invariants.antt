use Rattle.std.proofs.Common.{◌≡◌, ◌++◌, drop, map}
use Rattle.validate.specs.FreeLoops.{goes_free}
use Rattle.validate.proofs.loops.free_loops.Given as goal

abbrev pub invariant-loop-arc : goal.invariant-loop-arc
invariant-loop-arc l = l.marks.items ++ map (goes_free l.ends.items) (drop l.arc-index l.arcs) ≡ map (goes_free l.ends.items) l.arcs
