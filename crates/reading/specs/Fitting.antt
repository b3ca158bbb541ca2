-- What fits a grid: features as plain data, and sets of features.
use Rattle.std.specs.Prelude.{◌≡◌, true}
use Rattle.std.specs.List.{AllByRecursion}
use Rattle.theory.specs.Topology.{null, point, points, line, lines, polygon, polygons}
use Rattle.grid.specs.Place.{Transform}
use Rattle.grid.specs.Fits.{Fits}
use Rattle.shapes.specs.Sets as set
use Rattle.shapes.specs.Maps.{Features}
use Rattle.shapes.specs.Fitting.{ShapeFits}
use Rattle.shapes.specs.declared.feature.Feature.{Feature}
use Rattle.reading.specs.Plain.{Plain, PlainForm}

-- each position of the shape fits
abbrev pub FormFits : Transform → PlainForm → Type 0
FormFits g null = Unit {0}
FormFits g (point p) = Fits g p
FormFits g (points ps) = AllByRecursion (Fits g) ps
FormFits g (line l) = AllByRecursion (Fits g) l
FormFits g (lines ls) = AllByRecursion (AllByRecursion (Fits g)) ls
FormFits g (polygon rs) = AllByRecursion (AllByRecursion (Fits g)) rs
FormFits g (polygons ps) = AllByRecursion (AllByRecursion (AllByRecursion (Fits g))) ps

-- each position of the feature fits
abbrev pub PlainFits : Transform → Plain → Type 0
PlainFits g p = FormFits g p.form

-- each position of each feature of the set fits
abbrev pub SetFits : Transform → Features → Type 0
SetFits g s = (f : Feature) → set.contains s f ≡ true → ShapeFits g f.shape
