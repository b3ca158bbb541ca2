use Rattle.std.proofs.Common.{◌≡◌, drop}
use Rattle.validate.specs.Noding.{each_forward}
use Rattle.validate.proofs.noding.each_forward.Given as goal

abbrev pub invariant-loop-arc : goal.invariant-loop-arc
invariant-loop-arc l = each_forward (drop l.arc-index l.arcs) ≡ each_forward l.fn.arcs
