use Rattle.std.proofs.Common.{◌≡◌, ◌++◌, drop}
use Rattle.split_heal.specs.Choosing.{kept_numbers}
use Rattle.split_heal.proofs.choosing.numbers_of.Given as goal

abbrev pub invariant-loop-i : goal.invariant-loop-i
invariant-loop-i l = l.numbers.items ++ kept_numbers l.i (drop l.i l.kept) ≡ kept_numbers 0 l.kept
