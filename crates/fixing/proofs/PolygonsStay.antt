-- Lines and polygons without a fault.
use Rattle.std.proofs.Common.{◌≡◌, Bool, true, false, List, [], ◌∷◌, ◌++◌, map, refl, sym, ap, ◌∙◌, append_assoc, Option, Some, option_and_then}
use Rattle.std.specs.Option.{option_map}
use Rattle.grid.specs.declared.pos.Pos.{Pos}
use Rattle.theory.specs.Lists.{Each}
use Rattle.theory.proofs.Lists.{append_nil}
use Rattle.fixing.specs.Left.{all_counted, all_left, closed_list, ring_left}
use Rattle.fixing.specs.Measures.{turns_left}
use Rattle.fixing.specs.Polygons.{polygon_kept, polygon_left, polygons_of_loops, put_holes, rewound_from, rewound_polygon, with_holes}
use Rattle.fixing.specs.declared.rules.Fixes.{Fixes}
use Rattle.fixing.specs.declared.rules.Rewind.TheVariants.{Keep}
use Rattle.fixing.specs.declared.rules.FixingRules.{FixingRules}

-- of lists of which each is left as it is, all are
pub all_stay : (left : List Pos → Option (List (List Pos))) (P : List Pos → Type 0) → ((l : List Pos) → P l → left l ≡ Some (l ∷ [])) →
    (ls : List (List Pos)) → Each P ls → all_left left ls ≡ Some ls
all_stay left P stays [] h = refl
all_stay left P stays (l ∷ ls) h =
    ap (λ o. option_and_then (λ parts. option_map (λ more. parts ++ more) (all_left left ls)) o) (stays l h.0)
    ∙ ap (λ o. option_map (λ more. (l ∷ []) ++ more) o) (all_stay left P stays ls h.1)

-- and nothing is counted
pub none_counted : (count : List Pos → Fixes → Fixes) (P : List Pos → Type 0) (fixes : Fixes) → ((l : List Pos) → P l → count l fixes ≡ fixes) →
    (ls : List (List Pos)) → Each P ls → all_counted count ls fixes ≡ fixes
none_counted count P fixes stays [] h = refl
none_counted count P fixes stays (l ∷ ls) h = ap (λ f. all_counted count ls f) (stays l h.0) ∙ none_counted count P fixes stays ls h.1

module _ (rules : FixingRules) (P : List Pos → Type 0) (stays : (l : List Pos) → P l → ring_left rules l ≡ Some (l ∷ [])) where
  holes_stay : (holes rings : List (List Pos)) → Each P holes → with_holes rules holes (rings ∷ []) ≡ Some ((rings ++ holes) ∷ [])
  holes_stay [] rings h = ap (λ w. Some (w ∷ [])) (sym (append_nil rings))
  holes_stay (hole ∷ holes) rings h =
      ap (λ o. option_and_then (λ left. with_holes rules holes (put_holes left (rings ∷ []))) o) (stays hole h.0)
      ∙ holes_stay holes (rings ++ (hole ∷ [])) h.1
      ∙ ap (λ w. Some (w ∷ [])) (append_assoc rings (hole ∷ []) holes)

  pub kept_stays : (rings : List (List Pos)) → Each P rings → polygon_kept rules rings ≡ Some (rings ∷ [])
  kept_stays [] h = refl
  kept_stays (outer ∷ holes) h =
      ap (λ o. option_and_then (λ loops. with_holes rules holes (polygons_of_loops (turns_left (closed_list rules outer)) loops)) o) (stays outer h.0)
      ∙ holes_stay holes (outer ∷ []) h.1

  -- a polygon of which each ring is left as it is
  pub polygon_stays : (rings : List (List Pos)) → rules.rewind ≡ Keep → Each P rings → polygon_left rules rings ≡ Some (rings ∷ [])
  polygon_stays rings keep h =
      ap (λ o. option_map (map (rewound_polygon rules.rewind)) o) (kept_stays rings h)
      ∙ ap (λ w. Some (rewound_polygon w rings ∷ [])) keep
      ∙ ap (λ w. Some (w ∷ [])) (kept_turns true rings)
    where
      kept_turns : (is_outer : Bool) (rings : List (List Pos)) → rewound_from Keep is_outer rings ≡ rings
      kept_turns is_outer [] = refl
      kept_turns is_outer (ring ∷ rings) = ap (λ w. ring ∷ w) (kept_turns false rings)
