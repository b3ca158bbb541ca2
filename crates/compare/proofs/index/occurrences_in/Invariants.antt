use Rattle.compare.specs.Indexed.{occurrences_of}
use Rattle.compare.specs.Keyed.{keys_in}
use Rattle.compare.proofs.index.occurrences_in.Given as goal

abbrev pub invariant-loop-number : goal.invariant-loop-number
invariant-loop-number l = occurrences_of (keys_in l.fn.keys) l.number l.occurrences
