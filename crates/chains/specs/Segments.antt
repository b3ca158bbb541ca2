-- Segments as contracts see them.
use Rattle.std.specs.Prelude.{◌≡◌, ◌⊎◌}
use Rattle.grid.specs.declared.pos.Pos.{Pos}
use Rattle.chains.specs.declared.segment.Segment.{Segment}

-- the two ends of a segment, the lesser first
abbrev pub ends_of : Segment → Pos × Pos
ends_of s = (s.ends.lesser, s.ends.greater)

-- the segment has these two ends
abbrev pub IsBetween : Pos → Pos → Segment → Type 0
IsBetween a b s = (ends_of s ≡ (a, b)) ⊎ (ends_of s ≡ (b, a))
