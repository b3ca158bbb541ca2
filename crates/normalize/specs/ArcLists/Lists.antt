-- What is known of lists of used arcs.
use Rattle.std.specs.Prelude.{◌≡◌, ◌-◌, ◌+◌, ℕ, Bool, true, false, cond, is_some, nat_lt, List, [], ◌∷◌, Option, Some, None, slice_get}
use Rattle.std.specs.List.{list_all}
use Rattle.grid.specs.declared.pos.Pos.{Pos}
use Rattle.lines.specs.Reading.{line_fault, ring_fault}
use Rattle.lines.specs.Turned.{position_cmp}
use Rattle.lines.specs.declared.shape_fault.ShapeFault.{ShapeFault}
use Rattle.arcs.specs.Ends.{ends_along}
use Rattle.theory.specs.ArcNumbers.{ArcRef, StitchTo}
use Rattle.theory.specs.Lists.{Distinct, Twice, gathered}
use Rattle.normalize.specs.ArcLists.Labels.{label_at}
use Rattle.normalize.specs.declared.arc_lists.summaries.ArcSummary.{ArcSummary}
use Rattle.normalize.specs.declared.arc_lists.verdict.ListVerdict.{ListVerdict}
use Rattle.normalize.specs.declared.arc_lists.verdict.ListVerdict.TheVariants.{Sound, Broken, Faulty, NeedsPositions, NoEnds}

-- ---- what is known of used arcs

abbrev pub simple_if : Option ArcSummary → Bool
simple_if None = false
simple_if (Some s) = s.simple

-- whether the arc is there, and no segment occurs in it twice
abbrev pub is_simple : List ArcSummary → ArcRef → Bool
is_simple ss a = simple_if (slice_get ss a.arc)

-- whether each used arc is there, and has no segment twice
abbrev pub are_simple : List ArcSummary → List ArcRef → Bool
are_simple ss used = list_all (is_simple ss) used

abbrev pub more_if : Option ArcSummary → Bool
more_if None = false
more_if (Some s) = nat_lt 1 s.count

-- whether the arc is there, and has a segment
abbrev pub has_segment : List ArcSummary → ArcRef → Bool
has_segment ss a = more_if (slice_get ss a.arc)

abbrev pub count_if : Option ArcSummary → ℕ
count_if None = 0
count_if (Some s) = s.count - 1

-- how many segments the arc has
abbrev pub segments_in : List ArcSummary → ArcRef → ℕ
segments_in ss a = count_if (slice_get ss a.arc)

-- how many segments the used arcs have together
abbrev pub segment_count : List ArcSummary → List ArcRef → ℕ
segment_count ss [] = 0
segment_count ss (a ∷ used) = segments_in ss a + segment_count ss used

-- the number of a used arc, where it has a segment
abbrev pub number_of : List ArcSummary → ArcRef → List ℕ
number_of ss a = cond (has_segment ss a) (a.arc ∷ []) []

-- the numbers of those used arcs that have a segment
abbrev pub numbers_of : List ArcSummary → List ArcRef → List ℕ
numbers_of ss used = gathered (number_of ss) used

-- its label
abbrev pub label_of : List ArcSummary → List ℕ → ArcRef → List ℕ
label_of ss ls a = cond (has_segment ss a) (label_at ls a.arc ∷ []) []

-- the labels of those used arcs that have a segment
abbrev pub labels_of : List ArcSummary → List ℕ → List ArcRef → List ℕ
labels_of ss ls used = gathered (label_of ss ls) used

-- those used arcs that have a segment
abbrev pub kept : List ArcSummary → List ArcRef → List ArcRef
kept ss [] = []
kept ss (a ∷ used) = cond (has_segment ss a) (a ∷ kept ss used) (kept ss used)

-- there are labels, and none occurs twice
pub record HaveLabels (labels : List ℕ) : Type 0 where
  pub some : ¬ (labels ≡ [])
  pub once : Distinct labels

-- no used arc has a segment twice, and no two have one label
pub record AreOnce (ss : List ArcSummary) (ls : List ℕ) (used : List ArcRef) : Type 0 where
  pub simple : are_simple ss used ≡ true
  pub labels : HaveLabels (labels_of ss ls used)

-- an arc that has a segment is used twice
abbrev pub UsesTwice : List ArcSummary → List ArcRef → Type 0
UsesTwice ss used = (n : ℕ) × Twice n (numbers_of ss used)

-- ---- what is known

-- whether the arc is there, and has a position
abbrev pub has_ends_at : List (List Pos) → ArcRef → Bool
has_ends_at arcs a = is_some (ends_along arcs a)

-- whether each used arc is there, and has a position
abbrev pub all_have_ends : List (List Pos) → List ArcRef → Bool
all_have_ends arcs used = list_all (has_ends_at arcs) used

-- the used arcs stitch to a list of positions of which the test says this [TopoJSON, 2.1.4]
abbrev pub StitchToFault : (List Pos → Option ShapeFault) → List (List Pos) → List ArcRef → Option ShapeFault → Type 0
StitchToFault fault arcs used f = (l : List Pos) × StitchTo arcs used l × (fault l ≡ f)

-- they stitch to none, though each has a position [TopoJSON, 2.1.4]
pub record AreBroken (arcs : List (List Pos)) (used : List ArcRef) : Type 0 where
  pub ends : all_have_ends arcs used ≡ true
  pub none : (l : List Pos) → ¬ StitchTo arcs used l

-- what is known of used arcs is so [TopoJSON, 2.1.4]
abbrev pub IsListVerdict : (List Pos → Option ShapeFault) → List (List Pos) → List ArcRef → ListVerdict → Type 0
IsListVerdict fault arcs used Sound = StitchToFault fault arcs used None
IsListVerdict fault arcs used Broken = AreBroken arcs used
IsListVerdict fault arcs used (Faulty f) = StitchToFault fault arcs used (Some f)
IsListVerdict fault arcs used NeedsPositions = (l : List Pos) × StitchTo arcs used l
IsListVerdict fault arcs used NoEnds = Unit {0}

-- what the first stitch to has the faults of something that the others stitch to
abbrev pub SameFaults : List (List Pos) → List ArcRef → List ArcRef → Type 0
SameFaults arcs used others =
    (l : List Pos) → StitchTo arcs used l →
    (m : List Pos) × StitchTo arcs others m × (line_fault position_cmp l ≡ line_fault position_cmp m) × (ring_fault position_cmp l ≡ ring_fault position_cmp m)
