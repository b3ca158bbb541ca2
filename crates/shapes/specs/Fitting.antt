-- What fits a grid.
use Rattle.std.specs.Prelude.{◌≡◌, ℕ, List, true}
use Rattle.std.specs.List.{AllByRecursion}
use Rattle.grid.specs.Place.{Transform}
use Rattle.grid.specs.Fits.{Fits}
use Rattle.lines.specs.Seen.{positions_of, vertices_of}
use Rattle.shapes.specs.Sets as set
use Rattle.shapes.specs.Maps.{Layers, features_at}
use Rattle.shapes.specs.Shapes.{Shape}
use Rattle.shapes.specs.declared.form.Form.TheVariants.{Null, Point, MultiPoint, Line, MultiLine, Polygon, MultiPolygon}
use Rattle.shapes.specs.declared.feature.Feature.{Feature}

-- each position of the shape fits
abbrev pub ShapeFits : Transform → Shape → Type 0
ShapeFits g Null = Unit {0}
ShapeFits g (Point p) = Fits g p
ShapeFits g (MultiPoint ps) = AllByRecursion (Fits g) ps
ShapeFits g (Line l) = AllByRecursion (Fits g) (positions_of l)
ShapeFits g (MultiLine ls) = AllByRecursion (λ l. AllByRecursion (Fits g) (positions_of l)) ls
ShapeFits g (Polygon rs) = AllByRecursion (λ r. AllByRecursion (Fits g) (vertices_of r)) rs
ShapeFits g (MultiPolygon ps) = AllByRecursion (λ rs. AllByRecursion (λ r. AllByRecursion (Fits g) (vertices_of r)) rs) ps

-- each position of each feature fits
abbrev pub MapFits : Transform → Layers → Type 0
MapFits g m = (name : List ℕ) (f : Feature) → set.contains (features_at m name) f ≡ true → ShapeFits g f.shape
