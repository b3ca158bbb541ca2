use Rattle.std.proofs.Common.{◌≡◌, drop}
use Rattle.std.specs.List.{list_all}
use Rattle.validate.proofs.used_arcs.ArcsUsed.all.Given as goal

abbrev pub invariant-loop-used : goal.invariant-loop-used
invariant-loop-used l = list_all (λ b. b) (drop l.used-index l.used-items) ≡ list_all (λ b. b) l.used-items
