-- Paths into a JSON value.
use Rattle.std.specs.Prelude.{ℕ, List}

-- into the member whose name has these bytes, or into the element of that index
pub data Turn : Type 0 where
  name : List ℕ → Turn
  index : ℕ → Turn
