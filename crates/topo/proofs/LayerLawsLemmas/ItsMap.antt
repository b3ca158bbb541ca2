-- The one map that a topology is of.
use Rattle.std.specs.Prelude.{◌≡◌}
use Rattle.std.specs.Coded.{Coded-set, coded_list, coded_ℕ}
use Rattle.std.specs.FinMap as map
use Rattle.std.proofs.Math.Logic.{∥∥₁_elim, ∥∥₁_prop}
use mathlib.Core.HLevel.{Σ_prop_path}
use Rattle.shapes.specs.Maps.{Layers}
use Rattle.shapes.specs.Sets as set
use Rattle.shapes.specs.contracts.feature.Feature as feature
use Rattle.topo.specs.OfMap.{IsOf}
use Rattle.topo.specs.Parts.{TopologyParts}
use Rattle.topo.proofs.LayerLawsLemmas.OneMap.{one_map}

-- the map that a topology is of
abbrev pub ItsMap : TopologyParts → Type 0
ItsMap t = (m : Layers) × ∥ IsOf m t ∥₁

one_value : (m n : Layers) → IsProp (m ≡ n)
one_value m n = Coded-set (map.code (coded_list coded_ℕ) (set.code feature.the_row.coded)) m n

-- a topology is of one map at most
pub ItsMap-prop : (t : TopologyParts) → IsProp (ItsMap t)
ItsMap-prop t (m, h) (n, k) =
    Σ_prop_path (λ l. ∥∥₁_prop)
    (∥∥₁_elim h (one_value m n) (λ p. ∥∥₁_elim k (one_value m n) (λ q. one_map t m n p q)))

pub its_map_is : (t : TopologyParts) (c : ItsMap t) (m : Layers) → IsOf m t → c.0 ≡ m
its_map_is t (n, k) m h = ∥∥₁_elim k (one_value n m) (λ q. one_map t n m q h)
