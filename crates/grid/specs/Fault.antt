-- What the fault of an absolute number or place says of it.
use Rattle.std.specs.Prelude.{◌≡◌, ℕ, ℤ, ◌⊎◌}
use Rattle.grid.specs.Place.{Scaling, Transform, IsOnGrid, IsNumberOf, IsBeyond}
use Rattle.grid.specs.declared.transform.AxisFault as axis
use Rattle.grid.specs.declared.transform.AxisFault.TheVariants as of_axis
use Rattle.grid.specs.declared.transform.GridFault.{GridFault}
use Rattle.grid.specs.declared.transform.GridFault.TheVariants.{OffGrid, OutOfRange}

-- off the grid, or on it and outside the limits
abbrev pub IsAxisFault : Scaling → ℤ → axis.AxisFault → Type 0
IsAxisFault s a of_axis.OffGrid = IsOnGrid s a → ⊥
IsAxisFault s a of_axis.OutOfRange = IsBeyond s a

-- the fault of an element of a place
abbrev pub at_element : ℕ → axis.AxisFault → GridFault
at_element k of_axis.OffGrid = OffGrid k
at_element k of_axis.OutOfRange = OutOfRange k

-- the fault of x, or that of y where x has none
abbrev pub IsPlaceFault : Transform → ℤ × ℤ → GridFault → Type 0
IsPlaceFault t a f =
    ((g : axis.AxisFault) × (f ≡ at_element 0 g) × IsAxisFault t.x a.0 g)
    ⊎ ((n : ℤ) × (g : axis.AxisFault) × IsNumberOf t.x a.0 n × (f ≡ at_element 1 g) × IsAxisFault t.y a.1 g)
