-- Geometries that stitch to features, one by one, have features.
use Rattle.std.proofs.Common.{List, [], ◌∷◌}
use Rattle.grid.specs.declared.pos.Pos.{Pos}
use Rattle.shapes.specs.declared.feature.Feature.{Feature}
use Rattle.topo.specs.Features.{AreFeaturesOf}
use Rattle.topo.specs.GeometryOrder.{HaveFeatures}
use Rattle.topo.specs.declared.geom.Geom.{Geom}

pub have_all : (arcs : List (List Pos)) (fs : List Feature) (gs : List Geom) → AreFeaturesOf arcs fs gs → HaveFeatures arcs gs
have_all arcs [] [] h = tt
have_all arcs [] (g ∷ gs) h = absurd h
have_all arcs (f ∷ fs) [] h = absurd h
have_all arcs (f ∷ fs) (g ∷ gs) h = ((f, h.0), have_all arcs fs gs h.1)
