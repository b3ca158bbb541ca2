-- Positions of points.
use Rattle.std.specs.Prelude.{◌≡◌, []}
use Rattle.json.specs.Json.{Json}
use Rattle.grid.specs.declared.pos.Pos.{Pos}
use Rattle.decimal_maps.specs.declared.tally.Tally.{Tally}
use Rattle.decimal_arcs.specs.Places.{place_of, position_faults}
use Rattle.decimal_arcs.specs.Tallies.{with_place}
use Rattle.decimal_arcs.specs.declared.place.Quantization.{Quantization}

-- a position without a fault, as it is rounded; what is counted goes from a to b
pub record IsPlaced (q : Quantization) (j : Json) (p : Pos) (a b : Tally) : Type 0 where
  pub faultless : position_faults q j ≡ []
  pub at : p ≡ (place_of q j).at
  pub counted : b ≡ with_place (place_of q j) a
