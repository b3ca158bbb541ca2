-- The laws of what is left of lines and rings, proved.
use Rattle.std.proofs.Common.{◌≡◌, Bool, true, false, cond, List, [], ◌∷◌, refl, sym, ap, ◌∙◌, subst, Option, Some, None}
use Rattle.std.specs.Option.{option_map}
use Rattle.grid.specs.declared.pos.Pos.{Pos}
use Rattle.theory.specs.LinesAndRings.{IsLine, closed}
use Rattle.theory.specs.Lists.{Each}
use Rattle.lines.specs.Positions.{position_same, position_total}
use Rattle.lines.specs.Reading.{collapsed, line_fault, ring_fault}
use Rattle.lines.specs.Turned.{position_cmp}
use Rattle.lines.specs.declared.shape_fault.ShapeFault.{ShapeFault}
use Rattle.lines.specs.declared.shape_fault.ShapeFault.TheVariants.{TooShort, NotClosed, Revisit, OutOfMemory}
use Rattle.lines.proofs.ReadsItself.{line_without_fault, ring_without_fault}
use Rattle.fixing.specs.Laws as law
use Rattle.fixing.specs.Left.{closed_left, closed_list, closed_need, counted, is_refusing, left_by, line_counted, line_left, need_of, one_more, ring_counted}
use Rattle.fixing.specs.Loops.{loops_of}
use Rattle.fixing.specs.Runs.{runs_of}
use Rattle.fixing.specs.declared.linework.Fix.TheVariants.{Drop, Split}
use Rattle.fixing.specs.declared.rules.FixingRules.{FixingRules}
use Rattle.fixing.proofs.LoopLaws as loop
use Rattle.fixing.proofs.OddUses.{odd_uses}
use Rattle.fixing.proofs.OpenRings.{sound_closed}
use Rattle.fixing.proofs.PolygonLaws.{polygon_each}
use Rattle.fixing.proofs.PolygonsStay.{all_stay, none_counted, polygon_stays}
use Rattle.fixing.proofs.TurnLaws.{rewound_stays, turned_turns}
use Rattle.fixing.proofs.RunLaws.{runs_are_lines, segments_once}

Each-weaker : (P Q : List Pos → Type 0) → ((l : List Pos) → P l → Q l) → (ls : List (List Pos)) → Each P ls → Each Q ls
Each-weaker P Q f [] h = tt
Each-weaker P Q f (l ∷ ls) h = (f l h.0, Each-weaker P Q f ls h.1)

-- what is left of a list has P, where the list has it if it has no fault, and each of its parts has it
left_has : (P : List Pos → Type 0) (rules : FixingRules) (list : List Pos) (parts left : List (List Pos)) (fault : Option ShapeFault) →
    (fault ≡ None → P list) → Each P parts → option_map (λ need. left_by need list parts) (need_of rules fault) ≡ Some left → Each P left
left_has P rules list parts left None whole each e = let s : list ∷ [] ≡ left = cc in subst (Each P) s (whole refl, tt)
left_has P rules list parts left (Some TooShort) whole each e = short (is_refusing rules.collapsed) e
  where
    short : (b : Bool) → option_map (λ need. left_by need list parts) (cond b None (Some Drop)) ≡ Some left → Each P left
    short true f = absurd cc
    short false f = let s : ◌≡◌ {A = List (List Pos)} [] left = cc in subst (Each P) s tt
left_has P rules list parts left (Some Revisit) whole each e = split rules.splits_folded e
  where
    split : (b : Bool) → option_map (λ need. left_by need list parts) (cond b (Some Split) None) ≡ Some left → Each P left
    split true f = let s : parts ≡ left = cc in subst (Each P) s each
    split false f = absurd cc
left_has P rules list parts left (Some NotClosed) whole each e = absurd cc
left_has P rules list parts left (Some OutOfMemory) whole each e = absurd cc

pub lines_left_are_sound : law.LinesLeftAreSound
lines_left_are_sound rules line left e =
    left_has (λ l. line_fault position_cmp l ≡ None) rules line (runs_of (collapsed position_cmp line)) left (line_fault position_cmp line) (λ f. f)
    (Each-weaker IsLine (λ l. line_fault position_cmp l ≡ None) (line_without_fault position_cmp position_total position_same) (runs_of (collapsed position_cmp line))
    (runs_are_lines line))
    e

simple_sound : (l : List Pos) → law.IsSimpleRing l → ring_fault position_cmp l ≡ None
simple_sound l (ring, is, valid, distinct) =
    subst (λ w. ring_fault position_cmp w ≡ None) (sym is) (ring_without_fault position_cmp position_total position_same ring valid)

pub rings_left_are_sound : law.RingsLeftAreSound
rings_left_are_sound rules ring left e =
    let l = closed_list rules ring in
    left_has (λ l. ring_fault position_cmp l ≡ None) rules l (loops_of l) left (ring_fault position_cmp l) (λ f. f)
    (Each-weaker law.IsSimpleRing (λ l. ring_fault position_cmp l ≡ None) simple_sound (loops_of l) (loop.loops_are_simple l))
    e

pub runs_use_each_segment_once : law.RunsUseEachSegmentOnce
runs_use_each_segment_once line = segments_once (collapsed position_cmp line)

pub loops_are_simple : law.LoopsAreSimple
loops_are_simple l = loop.loops_are_simple l

pub loops_keep_odd_uses : law.LoopsKeepOddUses
loops_keep_odd_uses x l e s n = odd_uses x l e s n

pub sound_lines_stay : law.SoundLinesStay
sound_lines_stay rules line fixes e = (
  ap (λ f. option_map (λ need. left_by need line (runs_of (collapsed position_cmp line))) (need_of rules f)) e,
  ap (λ f. counted (need_of rules f) fixes) e,
)

pub sound_rings_stay : law.SoundRingsStay
sound_rings_stay rules ring fixes e = (
  ap (λ b. closed_left rules (cond b (closed ring) ring)) (sound_closed rules ring e) ∙ ap (λ f. option_map (λ need. left_by need ring (loops_of ring)) (need_of rules f)) e,
  ap (λ b. counted (closed_need rules (cond b (closed ring) ring)) (cond b (record fixes { closed = one_more fixes.closed }) fixes)) (sound_closed rules ring e)
      ∙ ap (λ f. counted (need_of rules f) fixes) e,
)

pub polygons_left_are_sound : law.PolygonsLeftAreSound
polygons_left_are_sound rules polygon left e =
    polygon_each (λ l. ring_fault position_cmp l ≡ None) rules (rings_left_are_sound rules) polygon left e

pub sound_multi_lines_stay : law.SoundMultiLinesStay
sound_multi_lines_stay rules lines fixes h = (
  all_stay (line_left rules) (λ l. line_fault position_cmp l ≡ None) (λ l e. (sound_lines_stay rules l fixes e).0) lines h,
  none_counted (line_counted rules) (λ l. line_fault position_cmp l ≡ None) fixes (λ l e. (sound_lines_stay rules l fixes e).1) lines h,
)

pub sound_polygons_stay : law.SoundPolygonsStay
sound_polygons_stay rules polygon fixes keep h = (
  polygon_stays rules (λ l. ring_fault position_cmp l ≡ None) (λ l e. (sound_rings_stay rules l fixes e).0) polygon keep h,
  none_counted (ring_counted rules) (λ l. ring_fault position_cmp l ≡ None) fixes (λ l e. (sound_rings_stay rules l fixes e).1) polygon h,
)

pub turned_rings_turn : law.TurnedRingsTurn
turned_rings_turn is_outer l fits n = turned_turns l fits is_outer n

pub turned_rings_stay : law.TurnedRingsStay
turned_rings_stay rewind is_outer l fits = rewound_stays rewind is_outer l fits
