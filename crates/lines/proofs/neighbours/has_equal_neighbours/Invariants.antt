use Rattle.std.proofs.Common.{◌≡◌, drop}
use Rattle.lines.specs.Neighbours.{equal_from, equal_neighbours}
use Rattle.lines.proofs.neighbours.has_equal_neighbours.Given as goal

abbrev pub invariant-loop-item : goal.invariant-loop-item
invariant-loop-item g l = equal_from g.T.PartialEq.eq l.before (drop l.item-index l.others) ≡ equal_neighbours g.T.PartialEq.eq l.fn.items
