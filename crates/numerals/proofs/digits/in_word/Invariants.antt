use Rattle.std.proofs.Common.{◌≡◌, length}
use Rattle.std.specs.Str.Parse.{digits_value_after, AllDigits}
use Rattle.numerals.proofs.digits.in_word.Given as goal

abbrev pub invariant-loop-digit : goal.invariant-loop-digit
invariant-loop-digit l = record {
  value : digits_value_after 10 l.number l.left ≡ digits_value_after 10 l.fn.value l.fn.digits;
  digits : AllDigits 10 l.left;
}

abbrev pub decreases-loop-digit : goal.decreases-loop-digit
decreases-loop-digit l = length l.left
