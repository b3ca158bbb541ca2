use Rattle.std.proofs.Common.{◌≡◌}
use Rattle.numerals.specs.Amount.{shortest}
use Rattle.numerals.proofs.decimal.without_zeros.Given as goal

abbrev pub invariant-loop-places : goal.invariant-loop-places
invariant-loop-places l = shortest l.places l.size ≡ shortest l.fn.places l.fn.size

abbrev pub decreases-loop-places : goal.decreases-loop-places
decreases-loop-places l = l.places
