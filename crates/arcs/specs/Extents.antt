-- The box that positions lie in.
use Rattle.std.specs.Prelude.{ℤ, Bool, ◌&&◌, int_le}
use Rattle.grid.specs.declared.pos.Pos.{Pos}
use Rattle.arcs.specs.declared.arcs_box.Extent.{Extent}

-- whether n is one of the numbers from the least to the greatest
abbrev pub between : ℤ → ℤ → ℤ → Bool
between least n greatest = int_le least n && int_le n greatest

-- whether a position lies within
abbrev pub within : Extent → Pos → Bool
within e p = between e.west p.x e.east && between e.south p.y e.north
