use Rattle.std.proofs.Common.{◌≡◌, drop}
use Rattle.query.specs.Stops.{sided_all, sides_at}
use Rattle.query.proofs.stops.sides_of.Given as goal

abbrev pub invariant-loop-end : goal.invariant-loop-end
invariant-loop-end l = sided_all l.sides (drop l.end-index l.fn.others) ≡ sides_at l.fn.first l.fn.others
