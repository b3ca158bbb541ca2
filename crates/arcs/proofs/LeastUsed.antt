-- The place that `position_min_by_key` finds among used arcs.
use Rattle.std.proofs.Common.{◌≡◌, ℕ, ◌+◌, Bool, true, false, cond, List, [], ◌∷◌, map, fold, if◌then◌else◌, refl, sym, ap, ◌∙◌, Option, unwrap_or}
use denote.Ref.{Bor}
use Rattle.std.specs.Cmp.Lexicographic.{lists_total}
use Rattle.std.specs.Ordering.{is_gt, is_lt, ordering_reverse}
use Rattle.std.specs.declared.cmp.Ordering.{Ordering}
use Rattle.std.specs.declared.cmp.Ordering.TheVariants.{Less, Equal, Greater}
use Rattle.std.specs.Iterator.Runs.{WholeRun}
use Rattle.std.specs.Slice.Iter.{iter_rest}
use Rattle.std.proofs.lemmas.Fn.{fronts}
use Rattle.std.specs.declared.slice.Iter.{Iter}
use Rattle.std.proofs.lemmas.Iterator.{YieldsList-from_slice}
use Rattle.itertools.proofs.AdaptorLemmas.{items_from_whole_run}
use Rattle.itertools.specs.Extremes.{index_step, position_of, wins}
use Rattle.theory.specs.ArcNumbers.{ArcRef, along}
use Rattle.theory.specs.Refinement.{first_two}
use Rattle.grid.specs.declared.pos.Pos.{Pos}
use Rattle.lines.specs.Positions.{position_total}
use Rattle.arcs.specs.Keys.{key_cmp}
use Rattle.arcs.specs.Turning.{least_index, least_index_from, used_key}
use Rattle.arcs.proofs.TurnedLists.{keys_compare}

module _ (arcs : List (List Pos)) where
  abbrev pub starts_before : Bor ArcRef → Bor ArcRef → Bool
  starts_before a b = is_lt (key_cmp (used_key arcs a.now) (used_key arcs b.now))

  other_way : (o : Ordering) → is_lt (ordering_reverse o) ≡ is_gt o
  other_way Less = refl
  other_way Equal = refl
  other_way Greater = refl

  -- one starts before the other where the other starts behind it
  behind : (a b : ArcRef) → is_lt (key_cmp (used_key arcs a) (used_key arcs b)) ≡ is_gt (key_cmp (used_key arcs b) (used_key arcs a))
  behind a b =
      let l = along arcs a in
      let k = along arcs b in
      ap is_lt (sym (keys_compare l k) ∙ (lists_total position_total).antisymm (first_two l) (first_two k) ∙ ap ordering_reverse (keys_compare k l))
      ∙ other_way (key_cmp (used_key arcs b) (used_key arcs a))

  steps_are : (items : List (Bor ArcRef)) (index : ℕ) (least : Bor ArcRef) (i : ℕ) →
      (fold (index_step (wins false starts_before)) (index, least, i) items).0 ≡ least_index_from arcs index (used_key arcs least.now) i (map (λ y. y.now) items)
  steps_are [] index least i = refl
  steps_are (x ∷ items) index least i =
      go (starts_before x least) (steps_are items i x (i + 1)) (steps_are items index least (i + 1))
      ∙ ap (λ b. least_index_from arcs (cond b i index) (cond b (used_key arcs x.now) (used_key arcs least.now)) (i + 1) (map (λ y. y.now) items)) (behind x.now least.now)
    where
      there : ℕ → Bor ArcRef → ℕ
      there n y = (fold (index_step (wins false starts_before)) (n, y, i + 1) items).0

      go : (b : Bool) → there i x ≡ least_index_from arcs i (used_key arcs x.now) (i + 1) (map (λ y. y.now) items) →
          there index least ≡ least_index_from arcs index (used_key arcs least.now) (i + 1) (map (λ y. y.now) items) →
          (fold (index_step (wins false starts_before)) (if b then (i, x, i + 1) else (index, least, i + 1)) items).0
          ≡ least_index_from arcs (cond b i index) (cond b (used_key arcs x.now) (used_key arcs least.now)) (i + 1) (map (λ y. y.now) items)
      go true f g = f
      go false f g = g

  place_is : (items : List (Bor ArcRef)) → unwrap_or (position_of (wins false starts_before) items) 0 ≡ least_index arcs (map (λ y. y.now) items)
  place_is [] = refl
  place_is (x ∷ items) = steps_are items 0 x 1

  -- in the form of the code
  pub least_found : (it : Iter ArcRef) (used : List ArcRef) (r : Option ℕ) (n : ℕ) → iter_rest it ≡ used →
      WholeRun (fronts {A = ArcRef}) it (λ p. r ≡ position_of (wins false starts_before) p.items) → n ≡ unwrap_or r 0 → n ≡ least_index arcs used
  least_found it used r n rest (p, from, whole, is) e =
      e ∙ ap (λ o. unwrap_or o 0) is ∙ place_is p.items ∙ ap (least_index arcs) (items_from_whole_run (YieldsList-from_slice used rest) p from whole)
