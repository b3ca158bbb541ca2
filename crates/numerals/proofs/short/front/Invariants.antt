use Rattle.std.proofs.Common.{length}
use Rattle.numerals.specs.Short.{IsFront}
use Rattle.numerals.proofs.short.front.Given as goal

abbrev pub invariant-loop-byte : goal.invariant-loop-byte
invariant-loop-byte l = IsFront l.fn.value l.fn.text l.number l.left

abbrev pub decreases-loop-byte : goal.decreases-loop-byte
decreases-loop-byte l = length l.left
