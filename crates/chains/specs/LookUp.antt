-- Positions that are looked up by bits first.
use Rattle.std.specs.Prelude.{List}
use Rattle.std.specs.List.Sorted.{IsSorted}
use Rattle.grid.specs.declared.pos.Pos.{Pos}
use Rattle.lines.specs.PositionFilter.{may_hold}
use Rattle.lines.specs.Holding.{Holds}
use Rattle.lines.specs.Turned.{position_cmp}
use Rattle.lines.specs.declared.position_filter.PositionFilter.{PositionFilter}

-- a sorted list and its bits
pub record IsLookUp (bits : PositionFilter) (js : List Pos) : Type 0 where
  pub sorted : IsSorted position_cmp js
  pub held : Holds (may_hold bits) js
