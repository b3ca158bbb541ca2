use Rattle.std.proofs.Common.{◌↔◌}
use Rattle.shapes.proofs.FitsLemmas.{EntriesFit}
use Rattle.shapes.proofs.feature_map.FeatureMap.fits.Given as goal

abbrev pub invariant-loop-layer : goal.invariant-loop-layer
invariant-loop-layer l = EntriesFit l.grid l.initial.layer-iterator ↔ EntriesFit l.grid l.layer-iterator
