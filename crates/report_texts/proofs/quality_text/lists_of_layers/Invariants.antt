-- The lists so far, with those of the layers that are left, are all.
use Rattle.std.proofs.Common.{◌≡◌, ◌++◌, drop, map}
use Rattle.report_texts.specs.QualityParts.{layer_lists}
use Rattle.report_texts.specs.QualityText.{lists_of}
use Rattle.report_texts.proofs.quality_text.lists_of_layers.Given as goal

abbrev pub invariant-loop-layer : goal.invariant-loop-layer
invariant-loop-layer l = map layer_lists l.lists.items ++ map lists_of (drop l.layer-index l.fn.layers) ≡ map lists_of l.fn.layers
