use Rattle.std.proofs.Common.{◌≡◌, drop}
use Rattle.validate.specs.Noding.{begins_least, none_before}
use Rattle.validate.proofs.noding.begins_least.Given as goal

abbrev pub invariant-loop-vertex : goal.invariant-loop-vertex
invariant-loop-vertex l = none_before l.first (drop l.vertex-index l.others) ≡ begins_least l.fn.arc
