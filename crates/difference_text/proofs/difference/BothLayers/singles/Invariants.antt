use Rattle.std.proofs.Common.{take, ◌≡◌}
use Rattle.std.specs.Prelude.{map as map_list}
use Rattle.difference_text.specs.DifferenceText.{single_number}
use Rattle.difference_text.proofs.difference.BothLayers.singles.Given as goal

abbrev pub invariant-loop-number : goal.invariant-loop-number
invariant-loop-number l = map_list single_number l.singles.items ≡ take l.number-index l.numbers
