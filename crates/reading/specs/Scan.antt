-- Lists in which what is asked of an element rests on those before it.
use Rattle.std.specs.Prelude.{ℕ, ◌+◌, List, [], ◌∷◌, ◌++◌}
use Rattle.serde_json.specs.Data.{Data}
use Rattle.faults.specs.Path.{index}
use Rattle.faults.specs.Fault.{Pair}
use Rattle.reading.specs.Fault.{under}

-- the faults of an element after those that led to a state, and the state after it [TopoJSON, 2.1.3]
abbrev pub scan_faults : {S : Type 0} → (S → Data → List Pair) → (S → Data → S) → S → ℕ → List Data → List Pair
scan_faults of next s i [] = []
scan_faults of next s i (d ∷ ds) = under (index i) (of s d) ++ scan_faults of next (next s d) (i + 1) ds
