use Rattle.std.proofs.Common.{take}
use Rattle.std.specs.Option.{option_copied}
use Rattle.theory.specs.Lists.{Pairwise}
use Rattle.difference_text.proofs.DifferenceTextLemmas.{IsMeantOf}
use Rattle.difference_text.proofs.difference.changes_asked.Given as goal

abbrev pub invariant-loop-pair : goal.invariant-loop-pair
invariant-loop-pair l = Pairwise (IsMeantOf l.comparison (option_copied l.key)) (take l.pair-index l.pair-items) l.layers.items
