-- Positions made of the numbers of an array.
use Rattle.std.proofs.Common.{◌≡◌, ◌≢◌, ◌≤◌, ℕ, length, get_or, drop, true, List, [], ◌∷◌, ◌++◌, Some, None, refl, sym, ap, ap₂, ◌∙◌, subst, arith, if◌then◌else◌}
use Rattle.std.specs.declared.alloc.Global.{Global}
use Rattle.json.specs.Json.{Json, number, Items, no_items, item}
use Rattle.json.specs.Find.{as_number}
use Rattle.json.specs.Value.{value_view, items_view}
use Rattle.json.specs.declared.value.Value.{Value}
use Rattle.faults.specs.Path.{index}
use Rattle.faults.specs.declared.fault.FaultKind.TheVariants.{NotTwo}
use Rattle.grid.specs.declared.pos.Pos.{Pos}
use Rattle.numerals.specs.Numeral.{IsMeasure}
use Rattle.reading.specs.Fault.{here, under}
use Rattle.reading.proofs.Faultless.{first_none, second_none, under_none}
use Rattle.decimal_maps.specs.Positions.{AreCoordinates, AreHeights}
use Rattle.decimal_maps.specs.declared.rules.DecimalGrid.{DecimalGrid}
use Rattle.decimal_maps.specs.declared.tally.Tally.{Tally}
use Rattle.decimal_faults.specs.Parts.{each_faults, numeral_faults}
use Rattle.decimal_faults.specs.Positions.{both_faults, coordinate_faults, height_faults, may_have, number_faults, numbers_faults}
use Rattle.decimal_faults.proofs.Items.{Values}
use Rattle.decimal_faults.proofs.Numbers.{number_found, number_is}

module _ (grid : DecimalGrid) where
  -- where the numbers have no faults the first two have none, and the heights have none
  each_none : (x y : Json) (js : Items) → true ≡ may_have grid (item x (item y js)) → numbers_faults grid (item x (item y js)) ≡ [] →
      (coordinate_faults grid.step grid.greatest_x x ≡ []) × (coordinate_faults grid.step grid.greatest_y y ≡ []) × (each_faults height_faults 2 js ≡ [])
  each_none x y js may e =
      let both = both_faults grid (item x (item y js)) in
      let heights = each_faults height_faults 2 js in
      let all : both ++ heights ≡ [] = ap (λ b. if b then both ++ heights else here NotTwo) may ∙ e in
      let first = coordinate_faults grid.step grid.greatest_x x in
      let second = coordinate_faults grid.step grid.greatest_y y in
      let two : under (index 0) first ++ under (index 1) second ≡ [] = first_none both heights all in (
        under_none (index 0) first (first_none (under (index 0) first) (under (index 1) second) two),
        under_none (index 1) second (second_none (under (index 0) first) (under (index 1) second) two),
        second_none both heights all,
      )

  module _ (vs : Values) (v w : Value Global) (may : true ≡ may_have grid (items_view vs)) (two : 2 ≤ length vs) (first : v ≡ get_or vs 0 v) (second : w ≡ get_or vs 1 w) where
    begin : items_view vs ≡ item (value_view v) (item (value_view w) (items_view (drop 2 vs)))
    begin = go vs two first second
      where
        go : (us : Values) → 2 ≤ length us → v ≡ get_or us 0 v → w ≡ get_or us 1 w → items_view us ≡ item (value_view v) (item (value_view w) (items_view (drop 2 us)))
        go [] h e f = absurd (omega arith)
        go (x ∷ []) h e f = absurd (omega arith)
        go (x ∷ y ∷ us) h e f = ap₂ (λ a b. item (value_view a) (item (value_view b) (items_view us))) (sym e) (sym f)

    none_each : numbers_faults grid (items_view vs) ≡ [] →
        (coordinate_faults grid.step grid.greatest_x (value_view v) ≡ []) × (coordinate_faults grid.step grid.greatest_y (value_view w) ≡ []) × (each_faults height_faults 2 (items_view (drop 2 vs)) ≡ [])
    none_each e = each_none (value_view v) (value_view w) (items_view (drop 2 vs)) (may ∙ ap (may_have grid) begin) (sym (ap (numbers_faults grid) begin) ∙ e)

    -- the second is no number
    pub second_refused : None ≡ as_number (value_view w) → numbers_faults grid (items_view vs) ≢ []
    second_refused none e = let k = ap (numeral_faults (number_faults grid.step grid.greatest_y)) none ∙ (none_each e).1 in cc

    -- a height is none
    pub heights_refused : each_faults height_faults 2 (items_view (drop 2 vs)) ≢ [] → numbers_faults grid (items_view vs) ≢ []
    heights_refused faulty e = faulty (none_each e).2

    module _ (s t : List ℕ) (across : Some s ≡ as_number (value_view v)) (along : Some t ≡ as_number (value_view w)) where
      begin_numbers : items_view vs ≡ item (number s) (item (number t) (items_view (drop 2 vs)))
      begin_numbers = begin ∙ ap₂ (λ x y. item x (item y (items_view (drop 2 vs)))) (number_is (value_view v) s (sym across)) (number_is (value_view w) t (sym along))

      -- both are numbers, and one is too far from 0
      pub both_refused : (a : Tally) → IsMeasure grid.step → ((p : Pos) (b : Tally) → AreCoordinates grid (item (number s) (item (number t) no_items)) p a b → ⊥) → numbers_faults grid (items_view vs) ≢ []
      both_refused a measured none e =
          let each = none_each e in
          let x = number_found grid.step grid.greatest_x s measured (ap (coordinate_faults grid.step grid.greatest_x) (sym (number_is (value_view v) s (sym across))) ∙ each.0) in
          let y = number_found grid.step grid.greatest_y t measured (ap (coordinate_faults grid.step grid.greatest_y) (sym (number_is (value_view w) t (sym along))) ∙ each.1) in
          let p : Pos = record { x = x.0; y = y.0; across = x.2; along = y.2 } in
          none p _ (x.1, y.1, refl)

      -- the position and its heights
      pub position_made : (p : Pos) (a b c : Tally) → AreCoordinates grid (item (number s) (item (number t) no_items)) p a b → AreHeights grid (items_view (drop 2 vs)) b c → AreCoordinates grid (items_view vs) p a c
      position_made p a b c h heights = subst (λ js. AreCoordinates grid js p a c) (sym begin_numbers) (h.0, h.1, subst (λ u. AreHeights grid (items_view (drop 2 vs)) u c) h.2 heights)
