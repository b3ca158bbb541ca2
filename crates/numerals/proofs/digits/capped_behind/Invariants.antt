use Rattle.std.proofs.Common.{◌≡◌, ◌^◌, min, take}
use Rattle.std.specs.Str.Parse.{digits_value_after}
use Rattle.numerals.proofs.digits.capped_behind.Given as goal

abbrev pub invariant-loop-digit : goal.invariant-loop-digit
invariant-loop-digit l = l.capped ≡ min (digits_value_after 10 l.fn.value (take l.digit-index l.digits)) (10 ^ 30)
