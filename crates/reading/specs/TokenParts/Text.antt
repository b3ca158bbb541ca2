-- What a reader of whole texts promises.
use Rattle.std.specs.Prelude.{◌≡◌, ℕ, List, [], Some}
use Rattle.faults.specs.Fault.{Pair}
use Rattle.serde_json.specs.Data.{Data}
use Rattle.reading.specs.Text.{document}

-- the bytes are the text of a value that has no fault and means x
pub record ReadsText {X : Type 0} (faults : Data → List Pair) (means : Data → X → Type 0) (bytes : List ℕ) (x : X) : Type 0 where
  pub from : Data
  pub given : document bytes ≡ Some from
  pub faultless : faults from ≡ []
  pub meant : means from x
