-- Rings made of closed lists without a fault.
use Rattle.std.proofs.Common.{◌≡◌, Bool, true, false, cond, List, [], ◌∷◌, ◌++◌, map, refl, sym, ap, ◌∙◌, Option, Some, None, is_none, option_and_then}
use Rattle.std.specs.Option.{option_map}
use Rattle.grid.specs.declared.pos.Pos.{Pos}
use Rattle.theory.specs.Lists.{Each}
use Rattle.lines.specs.Reading.{ring_fault, ring_of}
use Rattle.lines.specs.Turned.{position_cmp}
use Rattle.lines.specs.declared.shape_fault.ShapeFault.{ShapeFault}
use Rattle.fixing.specs.Laws.{EachRing}
use Rattle.fixing.specs.Counts.{no_fixes}
use Rattle.fixing.specs.Left.{ring_counted}
use Rattle.fixing.specs.Measures.{rewound}
use Rattle.fixing.specs.Polygons.{listed, polygon_counted, polygon_kept, polygons_left, polygons_made, rewound_from, rewound_polygon, rings_made}
use Rattle.fixing.specs.declared.rules.Fixes.{Fixes}
use Rattle.fixing.specs.declared.rules.FixingRules.{FixingRules}
use Rattle.fixing.specs.declared.rules.Rewind.{Rewind}
use Rattle.fixing.proofs.PolygonsStay.{kept_stays, none_counted}
use Rattle.fixing.proofs.ProvedLaws.{polygons_left_are_sound, sound_rings_stay}

-- a closed list without a fault
abbrev pub IsSound : List Pos → Type 0
IsSound l = ring_fault position_cmp l ≡ None

module _ (rewind : Rewind) where
  -- the rings of lists without a fault
  pub sound_made : (is_outer : Bool) (ls : List (List Pos)) → Each IsSound ls → rings_made rewind is_outer ls ≡ Some (map (ring_of position_cmp) (rewound_from rewind is_outer ls))
  sound_made is_outer [] h = refl
  sound_made is_outer (l ∷ ls) h =
      ap (λ f. option_and_then (λ ring. option_map (λ rings. ring ∷ rings) (rings_made rewind false ls)) (cond (is_none f) (Some (ring_of position_cmp (rewound rewind is_outer l))) None)) h.0
      ∙ ap (option_map (λ rings. ring_of position_cmp (rewound rewind is_outer l) ∷ rings)) (sound_made false ls h.1)

  -- lists of which rings are made have no fault
  pub made_sound : (is_outer : Bool) (ls made : List (List Pos)) → rings_made rewind is_outer ls ≡ Some made → Each IsSound ls
  made_sound is_outer [] made e = tt
  made_sound is_outer (l ∷ ls) made e = go (ring_fault position_cmp l) refl (rings_made rewind false ls) (λ more k. made_sound false ls more k) e
    where
      go : (f : Option ShapeFault) → ring_fault position_cmp l ≡ f → (o : Option (List (List Pos))) → ((more : List (List Pos)) → o ≡ Some more → Each IsSound ls) →
          option_and_then (λ ring. option_map (λ rings. ring ∷ rings) o) (cond (is_none f) (Some (ring_of position_cmp (rewound rewind is_outer l))) None) ≡ Some made → Each IsSound (l ∷ ls)
      go (Some f) p o ih k = absurd cc
      go None p None ih k = absurd cc
      go None p (Some more) ih k = (p, ih more refl)

  pub polygons_sound : (ps : List (List (List Pos))) → EachRing IsSound ps → polygons_made rewind ps ≡ map (map (ring_of position_cmp)) (map (rewound_polygon rewind) ps)
  polygons_sound [] h = refl
  polygons_sound (p ∷ ps) h =
      ap (λ o. listed o ++ polygons_made rewind ps) (sound_made true p h.0)
      ∙ ap (λ w. map (ring_of position_cmp) (rewound_polygon rewind p) ∷ w) (polygons_sound ps h.1)

module _ (rules : FixingRules) (rings : List (List Pos)) where
  pub sound_left : (made : List (List Pos)) → Some made ≡ rings_made rules.rewind true rings → polygons_left rules rings ≡ Some (made ∷ [])
  sound_left made e =
      let sound = made_sound rules.rewind true rings made (sym e) in
      let is : Some made ≡ Some (map (ring_of position_cmp) (rewound_polygon rules.rewind rings)) = e ∙ sound_made rules.rewind true rings sound in
      ap (λ o. option_map (map (map (ring_of position_cmp))) (option_map (map (rewound_polygon rules.rewind)) o))
      (kept_stays rules IsSound (λ l h. (sound_rings_stay rules l no_fixes h).0) rings sound)
      ∙ ap (λ o. option_map (λ p. p ∷ []) o) (sym is)

  pub sound_counted : (made : List (List Pos)) (fixes : Fixes) → Some made ≡ rings_made rules.rewind true rings → polygon_counted rules rings fixes ≡ fixes
  sound_counted made fixes e =
      none_counted (ring_counted rules) IsSound fixes (λ l h. (sound_rings_stay rules l fixes h).1) rings (made_sound rules.rewind true rings made (sym e))

  pub kept_left : (kept : List (List (List Pos))) (made : List (List (List Pos))) → polygon_kept rules rings ≡ Some kept → made ≡ polygons_made rules.rewind kept →
      polygons_left rules rings ≡ Some made
  kept_left kept made e is =
      ap (λ o. option_map (map (map (ring_of position_cmp))) (option_map (map (rewound_polygon rules.rewind)) o)) e
      ∙ ap Some (sym (is ∙ polygons_sound rules.rewind kept (polygons_left_are_sound rules rings kept e)))

  pub none_left : polygon_kept rules rings ≡ None → polygons_left rules rings ≡ None
  none_left e = ap (λ o. option_map (map (map (ring_of position_cmp))) (option_map (map (rewound_polygon rules.rewind)) o)) e
