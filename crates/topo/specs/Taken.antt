-- Lists of used arcs that are taken one after the other, by the lines and rings of a map in its order.
use Rattle.std.specs.Prelude.{ℕ, zero, suc, List, [], ◌∷◌, take, drop, length, min}
use Rattle.lines.specs.declared.ring.Ring as the_ring
use Rattle.shapes.specs.Maps.{Features, set_of}
use Rattle.shapes.specs.Sets as set
use Rattle.shapes.specs.declared.feature.Feature.{Feature}
use Rattle.shapes.specs.declared.layer.FeatureLayer.{FeatureLayer}
use Rattle.shapes.specs.Shapes as shapes
use Rattle.shapes.specs.declared.form.Form.TheVariants as of
use Rattle.theory.specs.ArcNumbers.{ArcRef}
use Rattle.topo.specs.Parts.{LayerParts}
use Rattle.topo.specs.Bodies as bodies
use Rattle.topo.specs.declared.geom.Geom.{Geom}

-- the lists that are left
abbrev pub Left : Type 0
Left = List (List ArcRef)

-- a list parted into lists of so many each
abbrev pub parted : List ℕ → List ArcRef → Left
parted [] l = []
parted (n ∷ ns) l = take (min n (length l)) l ∷ parted ns (drop (min n (length l)) l)

-- the first list; the empty one where none is left
abbrev pub first_list : Left → List ArcRef
first_list [] = []
first_list (l ∷ ls) = l

-- so many lists
abbrev pub taken : ℕ → Left → List (List ArcRef)
taken zero ls = []
taken (suc n) ls = first_list ls ∷ taken n (drop 1 ls)

-- the lists of each polygon's rings, and what is left behind them
abbrev pub polygons_taken : List (List the_ring.Ring) → Left → List (List (List ArcRef))
polygons_taken [] ls = []
polygons_taken (p ∷ ps) ls = taken (length p) ls ∷ polygons_taken ps (drop (length p) ls)

-- the lists that are left behind those of the polygons' rings
abbrev pub polygons_left : List (List the_ring.Ring) → Left → Left
polygons_left [] ls = ls
polygons_left (p ∷ ps) ls = polygons_left ps (drop (length p) ls)

-- the body of a shape, and what is left behind it
abbrev pub body_taken : shapes.Shape → Left → bodies.Body
body_taken of.Null ls = of.Null
body_taken (of.Point p) ls = of.Point p
body_taken (of.MultiPoint ps) ls = of.MultiPoint ps
body_taken (of.Line l) ls = of.Line (first_list ls)
body_taken (of.MultiLine xs) ls = of.MultiLine (taken (length xs) ls)
body_taken (of.Polygon rs) ls = of.Polygon (taken (length rs) ls)
body_taken (of.MultiPolygon ps) ls = of.MultiPolygon (polygons_taken ps ls)

-- the lists that are left behind those of a shape's lines and rings
abbrev pub shape_left : shapes.Shape → Left → Left
shape_left of.Null ls = ls
shape_left (of.Point p) ls = ls
shape_left (of.MultiPoint ps) ls = ls
shape_left (of.Line l) ls = drop 1 ls
shape_left (of.MultiLine xs) ls = drop (length xs) ls
shape_left (of.Polygon rs) ls = drop (length rs) ls
shape_left (of.MultiPolygon ps) ls = polygons_left ps ls

-- the geometry of a feature
abbrev pub geometry_taken : Feature → Left → Geom
geometry_taken f ls = record { id = f.id; props = f.props; body = body_taken f.shape ls }

-- the geometries of features, and what is left behind them
abbrev pub geometries_taken : List Feature → Left → List Geom
geometries_taken [] ls = []
geometries_taken (f ∷ fs) ls = geometry_taken f ls ∷ geometries_taken fs (shape_left f.shape ls)

-- the lists that are left behind those of these features
abbrev pub features_left : List Feature → Left → Left
features_left [] ls = ls
features_left (f ∷ fs) ls = features_left fs (shape_left f.shape ls)

-- a layer of features as geometries, its lines and rings by the first of the lists
abbrev pub layer_taken : FeatureLayer → Left → LayerParts
layer_taken l ls = record { name = l.name; geometries = geometries_taken (set.items (set_of l.features)) ls }

-- layers of features as geometries, each by the lists that those before it left
abbrev pub layers_taken : List FeatureLayer → Left → List LayerParts
layers_taken [] ls = []
layers_taken (l ∷ more) ls = layer_taken l ls ∷ layers_taken more (features_left (set.items (set_of l.features)) ls)

-- the entries of a map, their features as geometries
abbrev pub entries_taken : List (List ℕ × Features) → Left → List (List ℕ × List Geom)
entries_taken [] ls = []
entries_taken (e ∷ es) ls = (e.0, geometries_taken (set.items e.1) ls) ∷ entries_taken es (features_left (set.items e.1) ls)
