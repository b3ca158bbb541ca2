-- What the readers of tokens promise.
use Rattle.std.specs.Prelude.{◌≡◌, ◌≤◌, ℕ, List, [], ◌++◌, length, Some}
use Rattle.std.specs.List.{AllZip}
use Rattle.json.specs.Token.{Token}
use Rattle.json.specs.Json as json
use Rattle.serde_json.specs.Data.{Data, array, Items, Members, no_members}
use Rattle.serde_json.specs.Read.{of_json, of_items, of_members, converted}
use Rattle.serde_json.specs.View.{items_of}
use Rattle.faults.specs.Fault.{Pair}

-- of the tokens `old` the first value, which may nest so deep, is d, and `new` follows it [RFC 8259; `serde_json`]
abbrev pub Gives : ℕ → List Token → Data → List Token → Type 0
Gives depth old d new = converted of_json (json.value depth old) ≡ Some (d, new)

-- the first value has no fault and means x
pub record Reads {X : Type 0} (faults : Data → List Pair) (means : Data → X → Type 0) (depth : ℕ) (old new : List Token) (x : X) : Type 0 where
  pub from : Data
  pub given : Gives depth old from new
  pub faultless : faults from ≡ []
  pub meant : means from x

-- no fault, and the meaning x
abbrev pub Meets : {X : Type 0} → (Data → List Pair) → (Data → X → Type 0) → Data → X → Type 0
Meets faults means d x = (faults d ≡ []) × means d x

-- the rest of an array, up to its end, whose elements mean what `after` has behind `before`
pub record ReadsRest {X : Type 0} (faults : Data → List Pair) (means : Data → X → Type 0) (depth : ℕ) (old new : List Token) (before after : List X) : Type 0 where
  pub from : List Data
  pub made : List X
  pub given : (n : ℕ) → length old ≤ n → converted of_items (json.items (json.value depth) n old) ≡ Some (items_of from, new)
  pub meant : AllZip (Meets faults means) from made
  pub pushed : after ≡ before ++ made

-- the first value is an array, whose elements mean these
pub record ReadsArray {X : Type 0} (faults : Data → List Pair) (means : Data → X → Type 0) (depth : ℕ) (old new : List Token) (xs : List X) : Type 0 where
  pub from : List Data
  pub given : Gives depth old (array (items_of from)) new
  pub meant : AllZip (Meets faults means) from xs

-- the rest of an array that has just begun [RFC 8259; `serde_json`]
abbrev pub GivesItems : ℕ → List Token → Items → List Token → Type 0
GivesItems depth old ds new = converted of_items (json.items (json.value depth) (length old) old) ≡ Some (ds, new)

-- the rest of an object that has just begun [RFC 8259; `serde_json`]
abbrev pub GivesMembers : ℕ → List Token → Members → List Token → Type 0
GivesMembers depth old ms new = converted (λ found. of_members found no_members) (json.members (json.value depth) (length old) old) ≡ Some (ms, new)
