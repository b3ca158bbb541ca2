-- Whether a position is one of a list.
use Rattle.std.specs.Prelude.{◌≡◌, Bool, true, false, List}
use Rattle.std.specs.List.{list_any}
use Rattle.grid.specs.declared.pos.Pos.{Pos}
use Rattle.lines.specs.Pairs.{position_eq}

-- whether the position is one of the keys
abbrev pub among : List Pos → Pos → Bool
among keys p = list_any (position_eq p) keys

-- the answer is whether P holds
pub record Tells (b : Bool) (P : Type 0) : Type 0 where
  pub yes : b ≡ true → P
  pub no : b ≡ false → ¬ P
