use Rattle.std.proofs.Common.{refl}
use Rattle.difference_text.specs.DifferenceText.{counts_of}
use Rattle.difference_text.proofs.difference.Difference.counts.Goals as goal

pub loop-layer-init : goal.loop-layer-init
unfolding counts_of
loop-layer-init c = refl
