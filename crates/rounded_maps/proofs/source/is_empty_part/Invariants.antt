use Rattle.std.proofs.Common.{◌≡◌, drop}
use Rattle.rounded_maps.specs.Sequences.{is_blank}
use Rattle.rounded_maps.proofs.source.is_empty_part.Given as goal

-- the part is white space if the rest is
abbrev pub invariant-loop-byte : goal.invariant-loop-byte
invariant-loop-byte l = is_blank (drop l.byte-index l.part) ≡ is_blank l.part
