-- Lists of faults in order: by path and then by number, each once.
use Rattle.std.specs.Prelude.{List}
use Rattle.std.specs.List.Sorted.{IsStrictlySortedBy}
use Rattle.faults.specs.Fault.{Pair}
use Rattle.reading.specs.Fault.{pair_cmp}

-- each comes before those behind it
pub record IsAscending (ps : List Pair) : Type 0 where
  pub sorted : IsStrictlySortedBy pair_cmp ps
