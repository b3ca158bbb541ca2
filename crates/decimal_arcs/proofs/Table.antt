-- Arcs and their positions, one after another.
use Rattle.std.proofs.Common.{◌≡◌, ℕ, ◌+◌, ◌<◌, ◌≤◌, Bool, length, get_or, drop, List, [], ◌∷◌, ◌++◌, Option, Some, option_map, slice_get, Vec, refl, sym, ap, ap₂, ◌∙◌, arith, append_assoc, append-nil}
use Rattle.std.proofs.lemmas.List.{drop_more, drop_all}
use Rattle.std.proofs.lemmas.Option.{get_or_from_slice_get, slice_get_within}
use Rattle.std.specs.declared.alloc.Global.{Global}
use Rattle.json.specs.Json.{Json}
use Rattle.json.specs.Find.{as_array}
use Rattle.json.specs.Value.{value_view, items_view}
use Rattle.faults.specs.Path.{index}
use Rattle.faults.specs.Fault.{Pair}
use Rattle.reading.specs.Fault.{under}
use Rattle.decimal_faults.proofs.Items.{Values}
use Rattle.decimal_faults.specs.Parts.{array_faults}
use Rattle.decimal_arcs.specs.Arcs.{arc_faults, arc_if, arc_items_faults, arcs_faults, arcs_of, faults_if, places_behind, steps_faults}
use Rattle.decimal_arcs.specs.Places.{first_sums, next_sums, place_behind, step_faults}
use Rattle.decimal_arcs.specs.Seen.{Arcs, seen_arcs}
use Rattle.decimal_arcs.specs.declared.place.Place.{Place}
use Rattle.decimal_arcs.specs.declared.place.Quantization.{Quantization}
use Rattle.decimal_arcs.specs.declared.places.RunningSums.{RunningSums}

-- ---- the positions of an arc

-- these were read of the positions before i, behind which the sums are these
pub record ReadSteps (q : Quantization) (vs : Values) (i : ℕ) (sums : RunningSums) (found : List Pair) (places : List Place) : Type 0 where
  pub faults : found ++ steps_faults q sums i (items_view (drop i vs)) ≡ steps_faults q first_sums 0 (items_view vs)
  pub along : places ++ places_behind q sums (items_view (drop i vs)) ≡ places_behind q first_sums (items_view vs)

pub steps_none : (q : Quantization) (vs : Values) → ReadSteps q vs 0 first_sums [] []
steps_none q vs = record { faults = refl; along = refl }

module _ (q : Quantization) (vs : Values) (i : ℕ) (sums later : RunningSums) (found part now : List Pair) (places after : List Place) (p : Place) where
  pub steps_more : (v : _) → i < length vs → v ≡ get_or vs i v → ReadSteps q vs i sums found places
      → part ≡ step_faults q sums (value_view v) → p ≡ place_behind q sums (value_view v) → later ≡ next_sums q sums (value_view v)
      → now ≡ found ++ under (index i) part → after ≡ places ++ p ∷ [] → ReadSteps q vs (i + 1) later now after
  steps_more v less is h one at next put kept =
      let here : drop i vs ≡ v ∷ drop (i + 1) vs = drop_more vs i v less ∙ ap (λ u. u ∷ drop (i + 1) vs) (sym is) in
      let js = items_view (drop (i + 1) vs) in
      record {
        faults = ap (λ s. now ++ steps_faults q s (i + 1) js) next
            ∙ ap (λ ps. ps ++ steps_faults q (next_sums q sums (value_view v)) (i + 1) js) (put ∙ ap (λ ps. found ++ under (index i) ps) one)
            ∙ append_assoc found (under (index i) (step_faults q sums (value_view v))) _
            ∙ ap (λ us. found ++ steps_faults q sums i (items_view us)) (sym here) ∙ h.faults;
        along = ap (λ s. after ++ places_behind q s js) next
            ∙ ap (λ ps. ps ++ places_behind q (next_sums q sums (value_view v)) js) (kept ∙ ap (λ x. places ++ x ∷ []) at)
            ∙ append_assoc places (place_behind q sums (value_view v) ∷ []) _
            ∙ ap (λ us. places ++ places_behind q sums (items_view us)) (sym here) ∙ h.along;
      }

pub steps_faults_all : (q : Quantization) (vs : Values) (i : ℕ) (sums : RunningSums) (found : List Pair) (places : List Place) → length vs ≤ i → ReadSteps q vs i sums found places
    → found ≡ steps_faults q first_sums 0 (items_view vs)
steps_faults_all q vs i sums found places past h = sym (append-nil found) ∙ ap (λ us. found ++ steps_faults q sums i (items_view us)) (sym (drop_all i vs past)) ∙ h.faults

pub steps_places_all : (q : Quantization) (vs : Values) (i : ℕ) (sums : RunningSums) (found : List Pair) (places : List Place) → length vs ≤ i → ReadSteps q vs i sums found places
    → places ≡ places_behind q first_sums (items_view vs)
steps_places_all q vs i sums found places past h = sym (append-nil places) ∙ ap (λ us. places ++ places_behind q sums (items_view us)) (sym (drop_all i vs past)) ∙ h.along

-- ---- the table

-- these were read of the arcs before i
pub record ReadTable (q : Quantization) (used : List Bool) (vs : Values) (i : ℕ) (found : List Pair) (arcs : Arcs) : Type 0 where
  pub faults : found ++ arcs_faults q (drop i used) i (items_view (drop i vs)) ≡ arcs_faults q used 0 (items_view vs)
  pub known : arcs ++ arcs_of q (drop i used) (items_view (drop i vs)) ≡ arcs_of q used (items_view vs)

pub table_none : (q : Quantization) (used : List Bool) (vs : Values) → ReadTable q used vs 0 [] []
table_none q used vs = record { faults = refl; known = refl }

module _ (q : Quantization) (used : List Bool) (vs : Values) (i : ℕ) (found part now : List Pair) (arcs after : Arcs) (arc : Option (List Place)) where
  pub table_more : (v : _) (u : Bool) → i < length vs → v ≡ get_or vs i v → slice_get used i ≡ Some u → ReadTable q used vs i found arcs
      → part ≡ faults_if u q (value_view v) → arc ≡ arc_if u q (value_view v) → now ≡ found ++ under (index i) part → after ≡ arcs ++ arc ∷ [] → ReadTable q used vs (i + 1) now after
  table_more v u less is mark h one at put kept =
      let here : drop i vs ≡ v ∷ drop (i + 1) vs = drop_more vs i v less ∙ ap (λ x. x ∷ drop (i + 1) vs) (sym is) in
      let marks : drop i used ≡ u ∷ drop (i + 1) used = drop_more used i u (slice_get_within used i u mark) ∙ ap (λ x. x ∷ drop (i + 1) used) (get_or_from_slice_get used i u u mark) in
      let us = drop (i + 1) used in
      let js = items_view (drop (i + 1) vs) in
      record {
        faults = ap (λ ps. ps ++ arcs_faults q us (i + 1) js) (put ∙ ap (λ ps. found ++ under (index i) ps) one)
            ∙ append_assoc found (under (index i) (faults_if u q (value_view v))) _
            ∙ ap₂ (λ ms ws. found ++ arcs_faults q ms i (items_view ws)) (sym marks) (sym here) ∙ h.faults;
        known = ap (λ xs. xs ++ arcs_of q us js) (kept ∙ ap (λ x. arcs ++ x ∷ []) at)
            ∙ append_assoc arcs (arc_if u q (value_view v) ∷ []) _
            ∙ ap₂ (λ ms ws. arcs ++ arcs_of q ms (items_view ws)) (sym marks) (sym here) ∙ h.known;
      }

pub table_faults_all : (q : Quantization) (used : List Bool) (vs : Values) (i : ℕ) (found : List Pair) (arcs : Arcs) → length used ≡ length vs → length vs ≤ i → ReadTable q used vs i found arcs
    → found ≡ arcs_faults q used 0 (items_view vs)
table_faults_all q used vs i found arcs same past h =
    sym (append-nil found) ∙ ap₂ (λ ms us. found ++ arcs_faults q ms i (items_view us)) (sym (drop_all i used (omega (arith, same, past)))) (sym (drop_all i vs past)) ∙ h.faults

pub table_arcs_all : (q : Quantization) (used : List Bool) (vs : Values) (i : ℕ) (found : List Pair) (arcs : Arcs) → length used ≡ length vs → length vs ≤ i → ReadTable q used vs i found arcs
    → arcs ≡ arcs_of q used (items_view vs)
table_arcs_all q used vs i found arcs same past h =
    sym (append-nil arcs) ∙ ap₂ (λ ms us. arcs ++ arcs_of q ms (items_view us)) (sym (drop_all i used (omega (arith, same, past)))) (sym (drop_all i vs past)) ∙ h.known

-- one more arc, as it is seen
pub seen_more : (ts : List (Option (Vec Place Global))) (t : Option (Vec Place Global)) (arc : Option (List Place)) → option_map (λ ps. ps.items) t ≡ arc → seen_arcs (ts ++ t ∷ []) ≡ seen_arcs ts ++ arc ∷ []
seen_more [] t arc e = ap (λ x. x ∷ []) e
seen_more (x ∷ ts) t arc e = ap (λ xs. option_map (λ ps. ps.items) x ∷ xs) (seen_more ts t arc e)

pub arc_is : (q : Quantization) (j : Json) (vs : Values) → 0 < length vs → Some (items_view vs) ≡ as_array j → steps_faults q first_sums 0 (items_view vs) ≡ arc_faults q j
arc_is q j vs some is = some_items vs some ∙ ap (array_faults (arc_items_faults q)) is
  where
    some_items : (us : Values) → 0 < length us → steps_faults q first_sums 0 (items_view us) ≡ arc_items_faults q (items_view us)
    some_items [] h = absurd (omega (arith, h))
    some_items (u ∷ us) h = refl
