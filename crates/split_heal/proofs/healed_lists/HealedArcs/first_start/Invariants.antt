use Rattle.std.proofs.Common.{◌≡◌, ◌+◌, drop}
use Rattle.split_heal.specs.Starts.{first_place, starts_by}
use Rattle.split_heal.proofs.healed_lists.HealedArcs.first_start.Given as goal

abbrev pub invariant-loop-i : goal.invariant-loop-i
invariant-loop-i l = l.i + first_place (starts_by l.fn.self.pieces) (drop l.i l.fn.used) ≡ first_place (starts_by l.fn.self.pieces) l.fn.used
