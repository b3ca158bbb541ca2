use Rattle.std.proofs.Common.{take, ◌≡◌}
use Rattle.std.specs.Prelude.{map as map_list}
use Rattle.difference_text.specs.DifferenceText.{changed_numbers}
use Rattle.difference_text.proofs.difference.BothLayers.changes.Given as goal

abbrev pub invariant-loop-pair : goal.invariant-loop-pair
invariant-loop-pair l = map_list changed_numbers l.changed.items ≡ take l.pair-index l.pair-items
