use Rattle.std.proofs.Common.{◌≡◌, ◌++◌, drop}
use Rattle.theory.specs.TopologyFunction.{keep}
use Rattle.lines.specs.PositionFilter.{may_hold}
use Rattle.chains.specs.declared.visits.Visit.{Visit}
use Rattle.chains.proofs.repeats.keep_visits.Given as goal

abbrev pub invariant-loop-visit : goal.invariant-loop-visit
invariant-loop-visit l =
    l.kept.items ++ keep (λ (v : Visit). may_hold l.fn.again v.vertex) (drop l.visit-index l.fn.visits)
    ≡ l.fn.kept.items ++ keep (λ (v : Visit). may_hold l.fn.again v.vertex) l.fn.visits
