use Rattle.std.proofs.Common.{◌≡◌, take}
use Rattle.difference_text.specs.DifferenceText.{counts_of}
use Rattle.difference_text.proofs.difference.Difference.counts.Given as goal

abbrev pub invariant-loop-layer : goal.invariant-loop-layer
invariant-loop-layer l = l.counts ≡ counts_of (take l.layer-index l.layer-items)
