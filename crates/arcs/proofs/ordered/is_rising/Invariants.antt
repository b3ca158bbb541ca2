use Rattle.std.proofs.Common.{◌≡◌, ◌∷◌, drop}
use Rattle.arcs.specs.Stored.{rises}
use Rattle.arcs.proofs.ordered.is_rising.Given as goal

abbrev pub invariant-loop-arc : goal.invariant-loop-arc
invariant-loop-arc l = rises (l.last ∷ drop l.arc-index l.others) ≡ rises l.fn.arcs
