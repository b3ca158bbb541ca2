use Rattle.std.proofs.Common.{◌↔◌}
use Rattle.std.specs.List.{AllByRecursion}
use Rattle.shapes.specs.Fitting.{ShapeFits}
use Rattle.shapes.proofs.layer.FeatureLayer.fits.Given as goal

abbrev pub invariant-loop-feature : goal.invariant-loop-feature
invariant-loop-feature l = AllByRecursion (λ f. ShapeFits l.grid f.shape) l.self.features.keys ↔ AllByRecursion (λ f. ShapeFits l.grid f.shape) l.feature-iterator
