use Rattle.std.proofs.Common.{◌≡◌, ◌++◌, drop, map}
use Rattle.lines.specs.Reading.{collapsed}
use Rattle.lines.specs.Turned.{position_cmp}
use Rattle.normalize.proofs.repeats.arcs_without_repeats.Given as goal

abbrev pub invariant-loop-arc : goal.invariant-loop-arc
invariant-loop-arc l = l.made.items ++ map (collapsed position_cmp) (drop l.arc-index l.fn.arcs) ≡ map (collapsed position_cmp) l.fn.arcs
