use Rattle.compare.specs.Indexed.{Knows}
use Rattle.compare.proofs.index.numbers_of.Given as goal

abbrev pub invariant-loop-number : goal.invariant-loop-number
invariant-loop-number l = Knows l.fn.geometries l.number l.numbers
