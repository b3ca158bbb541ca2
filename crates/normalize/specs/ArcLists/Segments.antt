-- The segments of all arcs, each with the number of its arc.
use Rattle.std.specs.Prelude.{◌≡◌, ℕ, List, map, Some, slice_get}
use Rattle.std.specs.List.Sorted.{IsSorted}
use Rattle.std.specs.Ordering.{nat_cmp, ordering_then}
use Rattle.std.specs.declared.cmp.Ordering.{Ordering}
use Rattle.grid.specs.declared.pos.Pos.{Pos}
use Rattle.lines.specs.Pairs.{pair_cmp}
use Rattle.lines.specs.Reading.{collapsed}
use Rattle.lines.specs.Segments.{segments_of}
use Rattle.lines.specs.Turned.{position_cmp}
use Rattle.lines.specs.declared.pair.PositionPair.{PositionPair}
use Rattle.theory.specs.Lists.{Has}
use Rattle.normalize.specs.declared.arc_lists.segments.NumberedSegment.{NumberedSegment}

-- a segment of the arc of a number
abbrev pub segment_in : ℕ → PositionPair → NumberedSegment
segment_in n s = record { pair = s; arc = n }

abbrev pub segment_cmp : NumberedSegment → NumberedSegment → Ordering
segment_cmp s t = ordering_then (pair_cmp s.pair t.pair) (nat_cmp s.arc t.arc)

-- the segments of a list of positions, equal neighbours read as one
abbrev pub segments_along : List Pos → List PositionPair
segments_along c = segments_of (collapsed position_cmp c)

-- the list is in order, and has the segments of all arcs
pub record HaveSegments (arcs : List (List Pos)) (v : List NumberedSegment) : Type 0 where
  pub sorted : IsSorted segment_cmp v
  pub each : (i : ℕ) (c : List Pos) (s : PositionPair) → slice_get arcs i ≡ Some c → Has s (segments_along c) → Has (segment_in i s) v
