use Rattle.std.proofs.Common.{◌≡◌, ◌++◌, map, option_map}
use Rattle.rounded_maps.specs.Sequences.{parts_behind, records_of, texts_among}
use Rattle.rounded_maps.proofs.Parts.{left_over}
use Rattle.rounded_maps.proofs.source.records.Given as goal

-- the texts so far, with those of the rest, are all
abbrev pub invariant-loop-left : goal.invariant-loop-left
invariant-loop-left l = map (λ t. t.now) l.texts.items ++ texts_among (parts_behind l.separator (option_map (λ b. b.now) l.left)) ≡ records_of l.fn.bytes

abbrev pub decreases-loop-left : goal.decreases-loop-left
decreases-loop-left l = left_over (option_map (λ b. b.now) l.left)
