-- What a test of positions says of lists of them.
use Rattle.std.specs.Prelude.{◌≡◌, Bool, true, List}
use Rattle.theory.specs.Lists.{Has}
use Rattle.grid.specs.declared.pos.Pos.{Pos}

-- what held stays so
abbrev pub Keeps : (Pos → Bool) → (Pos → Bool) → Type 0
Keeps old new = (p : Pos) → old p ≡ true → new p ≡ true

-- it holds of a position, too
abbrev pub IsMarked : Pos → (Pos → Bool) → (Pos → Bool) → Type 0
IsMarked p old new = Keeps old new × (new p ≡ true)

-- it holds of all positions
abbrev pub Holds : (Pos → Bool) → List Pos → Type 0
Holds may ps = (p : Pos) → Has p ps → may p ≡ true

-- the same, and what held stays so
abbrev pub AreMarked : List Pos → (Pos → Bool) → (Pos → Bool) → Type 0
AreMarked ps old new = Keeps old new × Holds new ps
