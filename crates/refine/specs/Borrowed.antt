-- What a removal borrows of the layers of a topology.
use Rattle.std.specs.Prelude.{List, map as map_list}
use Rattle.topo.specs.Parts.{LayerParts}
use Rattle.refine.specs.declared.remove.RemainingLayer.{RemainingLayer}

-- what is borrowed of a layer, as its parts
abbrev pub borrowed : RemainingLayer → LayerParts
borrowed l = record { name = l.name.now; geometries = map_list (λ g. g.now) l.geometries.items }

-- what a removal borrows of each layer, as its parts
abbrev pub all_borrowed : List RemainingLayer → List LayerParts
all_borrowed ls = map_list borrowed ls
