use Rattle.std.proofs.Common.{◌≡◌, ◌++◌, drop}
use Rattle.theory.specs.TopologyFunction.{keep}
use Rattle.lines.specs.Visited.{joins}
use Rattle.lines.specs.PositionFilter.{may_hold}
use Rattle.lines.specs.Segments.{segments_from, segments_of}
use Rattle.lines.proofs.trail.segments_between.Given as goal

-- those made so far, and those of what is left
abbrev pub invariant-loop-next : goal.invariant-loop-next
invariant-loop-next l =
    l.made.items ++ keep (joins (may_hold l.ends)) (segments_from l.here (drop l.next-index l.others))
    ≡ keep (joins (may_hold l.ends)) (segments_of l.fn.positions)
