use Rattle.std.proofs.Common.{◌≡◌, ◌++◌, drop}
use Rattle.theory.specs.Lists.{gathered}
use Rattle.theory.specs.TopologyFunction.{keep}
use Rattle.lines.specs.PositionFilter.{may_hold}
use Rattle.chains.specs.Noted.{visits_at}
use Rattle.chains.specs.declared.visits.Visit.{Visit}
use Rattle.chains.proofs.repeats.keep_inner.Given as goal

abbrev pub invariant-loop-window : goal.invariant-loop-window
invariant-loop-window l =
    l.kept.items ++ keep (λ (v : Visit). may_hold l.fn.again v.vertex) (gathered visits_at (drop l.window-index l.fn.inner))
    ≡ l.fn.kept.items ++ keep (λ (v : Visit). may_hold l.fn.again v.vertex) (gathered visits_at l.fn.inner)
