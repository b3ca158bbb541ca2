-- Shapes that were fixed, fixed again.
use Rattle.std.proofs.Common.{◌≡◌, Bool, true, false, List, [], ◌∷◌, ◌++◌, map, refl, sym, ap, ◌∙◌, subst, Option, Some, None, option_and_then}
use Rattle.std.specs.Option.{option_map}
use Rattle.grid.specs.declared.pos.Pos.{Pos}
use Rattle.theory.specs.LinesAndRings.{closed}
use Rattle.theory.specs.Lists.{Each}
use Rattle.shapes.specs.declared.form.Form.TheVariants.{Null as null, Point as point, MultiPoint as points, Line as line, MultiLine as lines, Polygon as polygon, MultiPolygon as polygons}
use Rattle.lines.specs.Positions.{position_same, position_total}
use Rattle.lines.specs.Reading.{collapsed, line_fault, ring_of}
use Rattle.lines.specs.Turned.{position_cmp}
use Rattle.lines.proofs.ReadsItself.{line_without_fault, trail_collapses}
use Rattle.lines.proofs.Trails.{line_accepted}
use Rattle.fixing.specs.Counts.{no_fixes}
use Rattle.fixing.specs.Forms.{RawShape}
use Rattle.fixing.specs.Geometries.{form_counted, form_left, line_form, polygon_form}
use Rattle.fixing.specs.Laws.{EachRing, HasArea, HaveAreas, ShapesLeftStay, closed_form}
use Rattle.fixing.specs.Left.{all_counted, all_left, line_counted, line_left, lines_left}
use Rattle.fixing.specs.Polygons.{polygon_counted, polygon_kept, polygons_left, rewound_polygon, ring_made, rings_made}
use Rattle.fixing.specs.declared.rules.Fixes.{Fixes}
use Rattle.fixing.specs.declared.rules.FixingRules.{FixingRules}
use Rattle.fixing.proofs.PolygonsStay.{all_stay, none_counted}
use Rattle.fixing.proofs.ProvedLaws.{lines_left_are_sound, polygons_left_are_sound, sound_lines_stay}
use Rattle.fixing.proofs.RingsMade.{IsSound, sound_counted, sound_left, sound_made}
use Rattle.fixing.proofs.RunLaws.{Each-join}
use Rattle.fixing.proofs.TurnedAgain.{ring_stays}

-- ---- lines

-- a line that reads as itself
abbrev IsRead : List Pos → Type 0
IsRead l = (line_fault position_cmp l ≡ None) × (collapsed position_cmp l ≡ l)

sound_reads : (l : List Pos) → line_fault position_cmp l ≡ None → IsRead (collapsed position_cmp l)
sound_reads l e =
    let k = line_accepted position_cmp position_total position_same l e in
    (line_without_fault position_cmp position_total position_same (collapsed position_cmp l) k, trail_collapses position_cmp position_total position_same (collapsed position_cmp l) k.once)

sound_read : (ls : List (List Pos)) → Each (λ l. line_fault position_cmp l ≡ None) ls → Each IsRead (map (collapsed position_cmp) ls)
sound_read [] h = tt
sound_read (l ∷ ls) h = (sound_reads l h.0, sound_read ls h.1)

module _ (rules : FixingRules) where
  line_read : (l : List Pos) (ls : List (List Pos)) → lines_left rules l ≡ Some ls → Each IsRead ls
  line_read l ls e = go (line_left rules l) (λ parts k. sound_read parts (lines_left_are_sound rules l parts k)) e
    where
      go : (o : Option (List (List Pos))) → ((parts : List (List Pos)) → o ≡ Some parts → Each IsRead (map (collapsed position_cmp) parts)) →
          option_map (map (collapsed position_cmp)) o ≡ Some ls → Each IsRead ls
      go None f h = absurd cc
      go (Some parts) f h = let same : map (collapsed position_cmp) parts ≡ ls = cc in subst (Each IsRead) same (f parts refl)

  lines_read : (ls made : List (List Pos)) → all_left (lines_left rules) ls ≡ Some made → Each IsRead made
  lines_read [] made e = let same : [] ≡ made = cc in subst (Each IsRead) same tt
  lines_read (l ∷ ls) made e = go (lines_left rules l) (λ parts k. line_read l parts k) (all_left (lines_left rules) ls) (λ more k. lines_read ls more k) e
    where
      go : (o : Option (List (List Pos))) → ((parts : List (List Pos)) → o ≡ Some parts → Each IsRead parts) →
          (m : Option (List (List Pos))) → ((more : List (List Pos)) → m ≡ Some more → Each IsRead more) →
          option_and_then (λ parts. option_map (λ more. parts ++ more) m) o ≡ Some made → Each IsRead made
      go None f m g h = absurd cc
      go (Some parts) f None g h = absurd cc
      go (Some parts) f (Some more) g h = let same : parts ++ more ≡ made = cc in subst (Each IsRead) same (Each-join IsRead parts more (f parts refl) (g more refl))

  line_stays : (l : List Pos) → IsRead l → lines_left rules l ≡ Some (l ∷ [])
  line_stays l h = ap (option_map (map (collapsed position_cmp))) (sound_lines_stay rules l no_fixes h.0).0 ∙ ap (λ w. Some (w ∷ [])) h.1

  -- a shape that stays
  abbrev Stays : RawShape → Type 0
  Stays form = (fixes : Fixes) → (form_left rules (closed_form form) ≡ Some form) × (form_counted rules (closed_form form) fixes ≡ fixes)

  lines_stay : (ls : List (List Pos)) → Each IsRead ls → (all_left (lines_left rules) ls ≡ Some ls) × ((fixes : Fixes) → all_counted (line_counted rules) ls fixes ≡ fixes)
  lines_stay ls h = (all_stay (lines_left rules) IsRead line_stays ls h, λ fixes. none_counted (line_counted rules) IsRead fixes (λ l k. (sound_lines_stay rules l fixes k.0).1) ls h)

  line_form_stays : (was_multi : Bool) (ls : List (List Pos)) → Each IsRead ls → Stays (line_form was_multi ls)
  line_form_stays was_multi [] h = λ fixes. (refl, refl)
  line_form_stays false (l ∷ []) h = λ fixes. (ap (option_map (line_form false)) (line_stays l h.0), (lines_stay (l ∷ []) h).1 fixes)
  line_form_stays true (l ∷ []) h = λ fixes. (ap (option_map (line_form true)) (lines_stay (l ∷ []) h).0, (lines_stay (l ∷ []) h).1 fixes)
  line_form_stays was_multi (l ∷ (m ∷ ls)) h = λ fixes. (ap (option_map (line_form true)) (lines_stay (l ∷ (m ∷ ls)) h).0, (lines_stay (l ∷ (m ∷ ls)) h).1 fixes)

  -- ---- polygons

  -- the rings of which are made of their own closed lists
  abbrev IsMade : Bool → List (List Pos) → Type 0
  IsMade is_outer rs = rings_made rules.rewind is_outer (map closed rs) ≡ Some rs

  made_stays : (is_outer : Bool) (ls rs : List (List Pos)) → Each (λ r. HasArea (closed r)) rs → rings_made rules.rewind is_outer ls ≡ Some rs → IsMade is_outer rs
  made_stays is_outer [] rs fits e = let same : [] ≡ rs = cc in subst (IsMade is_outer) same refl
  made_stays is_outer (l ∷ ls) rs fits e =
      go (ring_made rules.rewind is_outer l) (λ r k. ring_stays rules.rewind is_outer l r k) (rings_made rules.rewind false ls) (λ more k. made_stays false ls more k) e
    where
      go : (o : Option (List Pos)) → ((r : List Pos) → HasArea (closed r) → o ≡ Some r → ring_made rules.rewind is_outer (closed r) ≡ Some r) →
          (m : Option (List (List Pos))) → ((more : List (List Pos)) → Each (λ r. HasArea (closed r)) more → m ≡ Some more → IsMade false more) →
          option_and_then (λ ring. option_map (λ rings. ring ∷ rings) m) o ≡ Some rs → IsMade is_outer rs
      go None f m g h = absurd cc
      go (Some r) f None g h = absurd cc
      go (Some r) f (Some more) g h =
          let same : r ∷ more ≡ rs = cc in
          let k = subst (Each (λ r. HasArea (closed r))) (sym same) fits in
          subst (IsMade is_outer) same
          (ap (λ o. option_and_then (λ ring. option_map (λ rings. ring ∷ rings) (rings_made rules.rewind false (map closed more))) o) (f r k.0 refl)
          ∙ ap (option_map (λ rings. r ∷ rings)) (g more k.1 refl))

  -- each polygon is made so
  abbrev AreMade : List (List (List Pos)) → Type 0
  AreMade [] = Unit {0}
  AreMade (p ∷ ps) = IsMade true p × AreMade ps

  kept_made : (kept : List (List (List Pos))) → EachRing IsSound kept →
      EachRing (λ r. HasArea (closed r)) (map (map (ring_of position_cmp)) (map (rewound_polygon rules.rewind) kept)) →
      AreMade (map (map (ring_of position_cmp)) (map (rewound_polygon rules.rewind) kept))
  kept_made [] h fits = tt
  kept_made (p ∷ kept) h fits = (
    made_stays true p (map (ring_of position_cmp) (rewound_polygon rules.rewind p)) fits.0 (sound_made rules.rewind true p h.0),
    kept_made kept h.1 fits.1,
  )

  polygon_made : (rs : List (List Pos)) (ps : List (List (List Pos))) → polygons_left rules rs ≡ Some ps → EachRing (λ r. HasArea (closed r)) ps → AreMade ps
  polygon_made rs ps e = go (polygon_kept rules rs) (λ kept k. kept_made kept (polygons_left_are_sound rules rs kept k)) e
    where
      go : (o : Option (List (List (List Pos)))) → ((kept : List (List (List Pos))) → o ≡ Some kept →
          EachRing (λ r. HasArea (closed r)) (map (map (ring_of position_cmp)) (map (rewound_polygon rules.rewind) kept)) →
          AreMade (map (map (ring_of position_cmp)) (map (rewound_polygon rules.rewind) kept))) →
          option_map (map (map (ring_of position_cmp))) (option_map (map (rewound_polygon rules.rewind)) o) ≡ Some ps → EachRing (λ r. HasArea (closed r)) ps → AreMade ps
      go None f h = absurd cc
      go (Some kept) f h =
          let same : map (map (ring_of position_cmp)) (map (rewound_polygon rules.rewind) kept) ≡ ps = cc in
          subst (λ ps. EachRing (λ r. HasArea (closed r)) ps → AreMade ps) same (f kept refl)

  AreMade-join : (a b : List (List (List Pos))) → AreMade a → AreMade b → AreMade (a ++ b)
  AreMade-join [] b h k = k
  AreMade-join (p ∷ a) b h k = (h.0, AreMade-join a b h.1 k)

  areas_parted : (a b : List (List (List Pos))) → EachRing (λ r. HasArea (closed r)) (a ++ b) → EachRing (λ r. HasArea (closed r)) a × EachRing (λ r. HasArea (closed r)) b
  areas_parted [] b h = (tt, h)
  areas_parted (p ∷ a) b h = let k = areas_parted a b h.1 in ((h.0, k.0), k.1)

  polygons_made : (pss : List (List (List Pos))) (made : List (List (List Pos))) → all_left (polygons_left rules) pss ≡ Some made → EachRing (λ r. HasArea (closed r)) made → AreMade made
  polygons_made [] made e = let same : [] ≡ made = cc in λ fits. subst AreMade same tt
  polygons_made (rs ∷ pss) made e =
      go (polygons_left rules rs) (λ parts k. polygon_made rs parts k) (all_left (polygons_left rules) pss) (λ more k. polygons_made pss more k) e
    where
      go : (o : Option (List (List (List Pos)))) → ((parts : List (List (List Pos))) → o ≡ Some parts → EachRing (λ r. HasArea (closed r)) parts → AreMade parts) →
          (m : Option (List (List (List Pos)))) → ((more : List (List (List Pos))) → m ≡ Some more → EachRing (λ r. HasArea (closed r)) more → AreMade more) →
          option_and_then (λ parts. option_map (λ more. parts ++ more) m) o ≡ Some made → EachRing (λ r. HasArea (closed r)) made → AreMade made
      go None f m g h = absurd cc
      go (Some parts) f None g h = absurd cc
      go (Some parts) f (Some more) g h =
          let same : parts ++ more ≡ made = cc in
          subst (λ made. EachRing (λ r. HasArea (closed r)) made → AreMade made) same
          (λ fits. let k = areas_parted parts more fits in AreMade-join parts more (f parts refl k.0) (g more refl k.1))

  polygon_stays : (p : List (List Pos)) → IsMade true p → polygons_left rules (map closed p) ≡ Some (p ∷ [])
  polygon_stays p h = sound_left rules (map closed p) p (sym h)

  polygons_stay : (ps : List (List (List Pos))) → AreMade ps → all_left (polygons_left rules) (map (map closed) ps) ≡ Some ps
  polygons_stay [] h = refl
  polygons_stay (p ∷ ps) h =
      ap (λ o. option_and_then (λ parts. option_map (λ more. parts ++ more) (all_left (polygons_left rules) (map (map closed) ps))) o) (polygon_stays p h.0)
      ∙ ap (option_map (λ more. p ∷ more)) (polygons_stay ps h.1)

  none_counted_of : (ps : List (List (List Pos))) (fixes : Fixes) → AreMade ps → all_counted (polygon_counted rules) (map (map closed) ps) fixes ≡ fixes
  none_counted_of [] fixes h = refl
  none_counted_of (p ∷ ps) fixes h = ap (all_counted (polygon_counted rules) (map (map closed) ps)) (sound_counted rules (map closed p) p fixes (sym h.0)) ∙ none_counted_of ps fixes h.1

  polygon_form_stays : (was_multi : Bool) (ps : List (List (List Pos))) → AreMade ps → Stays (polygon_form was_multi ps)
  polygon_form_stays was_multi [] h = λ fixes. (refl, refl)
  polygon_form_stays false (p ∷ []) h = λ fixes. (ap (option_map (polygon_form false)) (polygon_stays p h.0), sound_counted rules (map closed p) p fixes (sym h.0))
  polygon_form_stays true (p ∷ []) h = λ fixes. (ap (option_map (polygon_form true)) (polygons_stay (p ∷ []) h), none_counted_of (p ∷ []) fixes h)
  polygon_form_stays was_multi (p ∷ (q ∷ ps)) h = λ fixes. (ap (option_map (polygon_form true)) (polygons_stay (p ∷ (q ∷ ps)) h), none_counted_of (p ∷ (q ∷ ps)) fixes h)

  form_areas : (was_multi : Bool) (ps : List (List (List Pos))) → HaveAreas (polygon_form was_multi ps) → EachRing (λ r. HasArea (closed r)) ps
  form_areas was_multi [] h = tt
  form_areas false (p ∷ []) h = (h, tt)
  form_areas true (p ∷ []) h = h
  form_areas was_multi (p ∷ (q ∷ ps)) h = h

  -- ---- shapes

  stays_left : (form left : RawShape) → Some form ≡ Some left → Stays form → Stays left
  stays_left form left e h = let same : form ≡ left = cc in subst Stays same h

  lines_form : (was_multi : Bool) (o : Option (List (List Pos))) (left : RawShape) → ((ls : List (List Pos)) → o ≡ Some ls → Each IsRead ls) →
      option_map (line_form was_multi) o ≡ Some left → Stays left
  lines_form was_multi None left f h = absurd cc
  lines_form was_multi (Some ls) left f h = stays_left (line_form was_multi ls) left h (line_form_stays was_multi ls (f ls refl))

  polygons_form : (was_multi : Bool) (o : Option (List (List (List Pos)))) (left : RawShape) →
      ((ps : List (List (List Pos))) → o ≡ Some ps → EachRing (λ r. HasArea (closed r)) ps → AreMade ps) →
      option_map (polygon_form was_multi) o ≡ Some left → HaveAreas left → Stays left
  polygons_form was_multi None left f h fits = absurd cc
  polygons_form was_multi (Some ps) left f h fits =
      let same : polygon_form was_multi ps ≡ left = cc in
      subst Stays same (polygon_form_stays was_multi ps (f ps refl (form_areas was_multi ps (subst HaveAreas (sym same) fits))))

  shape_stays : (form left : RawShape) → form_left rules form ≡ Some left → HaveAreas left → Stays left
  shape_stays null left e fits = stays_left null left e (λ fixes. (refl, refl))
  shape_stays (point p) left e fits = stays_left (point p) left e (λ fixes. (refl, refl))
  shape_stays (points ps) left e fits = stays_left (points ps) left e (λ fixes. (refl, refl))
  shape_stays (line l) left e fits = lines_form false (lines_left rules l) left (line_read l) e
  shape_stays (lines []) left e fits = stays_left (lines []) left e (λ fixes. (refl, refl))
  shape_stays (lines (l ∷ ls)) left e fits = lines_form true (all_left (lines_left rules) (l ∷ ls)) left (lines_read (l ∷ ls)) e
  shape_stays (polygon rs) left e fits = polygons_form false (polygons_left rules rs) left (polygon_made rs) e fits
  shape_stays (polygons []) left e fits = stays_left (polygons []) left e (λ fixes. (refl, refl))
  shape_stays (polygons (p ∷ ps)) left e fits = polygons_form true (all_left (polygons_left rules) (p ∷ ps)) left (polygons_made (p ∷ ps)) e fits

pub shapes_left_stay : ShapesLeftStay
shapes_left_stay rules form left fixes e fits = shape_stays rules form left e fits fixes
