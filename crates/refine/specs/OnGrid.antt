-- A map on a grid, as a shard is seen.
use Rattle.std.specs.Prelude.{ℤ, ◌<◌, ◌^◌, length}
use Rattle.std.specs.Coded.{Coded, code_by, coded×, coded_list, coded_ℕ, coded_ℤ}
use Rattle.std.proofs.Common.{refl}
use Rattle.std.specs.FinMap as map
use Rattle.grid.specs.Place.{Transform}
use Rattle.shapes.specs.Maps.{Layers}
use Rattle.shapes.specs.Sets as set
use Rattle.shapes.specs.contracts.feature.Feature as feature
use Rattle.topo.specs.OfMap.{IsOf}
use Rattle.topo.specs.Parts.{TopologyParts}

-- a map and a grid: what callers see of a shard that keeps a topology
pub record MapOnGrid : Type 0 where
  pub grid : Transform
  pub map : Layers

abbrev Numbers : Type 0
Numbers = (ℤ × ℤ) × (ℤ × ℤ)

abbrev grid_code : Coded Transform
grid_code =
    code_by Numbers (coded× (coded× coded_ℤ coded_ℤ) (coded× coded_ℤ coded_ℤ)) (λ g. ((g.x.scale, g.x.translate), (g.y.scale, g.y.translate)))
    (λ n. record { x = record { scale = n.0.0; translate = n.0.1 }; y = record { scale = n.1.0; translate = n.1.1 } }) (λ _. refl)

-- a map on a grid, coded by its grid and its map
abbrev pub map_on_grid_code : Coded MapOnGrid
map_on_grid_code =
    code_by (Transform × Layers) (coded× grid_code (map.code (coded_list coded_ℕ) (set.code feature.the_row.coded))) (λ s. (s.grid, s.map))
    (λ p. record { grid = p.0; map = p.1 }) (λ _. refl)

-- the topology is that of the map, and 64 bits number its arcs
pub record IsKeptFor (m : Layers) (t : TopologyParts) : Type 0 where
  pub of_map : IsOf m t
  pub few : length t.arcs.arcs < 2 ^ 63
