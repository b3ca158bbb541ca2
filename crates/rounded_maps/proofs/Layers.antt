-- Layers of maps that are put one after the other.
use Rattle.std.proofs.Common.{ℕ, List, [], ◌∷◌, refl}
use Rattle.shapes.specs.Maps.{Layers}
use Rattle.rounded_maps.specs.Built.{AreLayersWith}

-- with no map more
pub layers_end : (layers : Layers) (names : List (List ℕ)) → AreLayersWith layers names [] layers
layers_end layers [] = refl
layers_end layers (n ∷ ns) = refl
