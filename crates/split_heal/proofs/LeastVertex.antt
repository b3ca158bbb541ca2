-- The place that `position_min` finds among the vertices of a ring.
use Rattle.std.proofs.Common.{◌≡◌, ℕ, ◌+◌, Bool, true, false, cond, List, [], ◌∷◌, map, fold, if◌then◌else◌, refl, ap, ◌∙◌, Option, unwrap_or}
use denote.Ref.{Bor}
use Rattle.std.specs.Ordering.{is_lt}
use Rattle.std.specs.Iterator.Runs.{WholeRun}
use Rattle.std.specs.Slice.Iter.{iter_rest}
use Rattle.std.proofs.lemmas.Fn.{fronts}
use Rattle.std.specs.declared.slice.Iter.{Iter}
use Rattle.std.proofs.lemmas.Iterator.{YieldsList-from_slice}
use Rattle.itertools.proofs.AdaptorLemmas.{items_from_whole_run}
use Rattle.itertools.specs.Extremes.{index_step, position_of, wins}
use Rattle.grid.specs.declared.pos.Pos.{Pos}
use Rattle.lines.specs.Turned.{position_cmp}
use Rattle.split_heal.specs.HealedArcs.{least_vertex, least_vertex_from}

abbrev comes_before : Bor Pos → Bor Pos → Bool
comes_before a b = is_lt (position_cmp a.now b.now)

steps_are : (items : List (Bor Pos)) (place : ℕ) (least : Bor Pos) (i : ℕ) →
    (fold (index_step (wins false comes_before)) (place, least, i) items).0 ≡ least_vertex_from place least.now i (map (λ y. y.now) items)
steps_are [] place least i = refl
steps_are (x ∷ items) place least i = go (comes_before x least) (steps_are items i x (i + 1)) (steps_are items place least (i + 1))
  where
    there : ℕ → Bor Pos → ℕ
    there n y = (fold (index_step (wins false comes_before)) (n, y, i + 1) items).0

    go : (b : Bool) → there i x ≡ least_vertex_from i x.now (i + 1) (map (λ y. y.now) items) →
        there place least ≡ least_vertex_from place least.now (i + 1) (map (λ y. y.now) items) →
        (fold (index_step (wins false comes_before)) (if b then (i, x, i + 1) else (place, least, i + 1)) items).0
        ≡ least_vertex_from (cond b i place) (cond b x.now least.now) (i + 1) (map (λ y. y.now) items)
    go true f g = f
    go false f g = g

place_is : (items : List (Bor Pos)) → unwrap_or (position_of (wins false comes_before) items) 0 ≡ least_vertex (map (λ y. y.now) items)
place_is [] = refl
place_is (x ∷ items) = steps_are items 0 x 1

-- in the form of the code
pub least_found : (it : Iter Pos) (ring : List Pos) (r : Option ℕ) (n : ℕ) → iter_rest it ≡ ring →
    WholeRun (fronts {A = Pos}) it (λ p. r ≡ position_of (wins false comes_before) p.items) → n ≡ unwrap_or r 0 → n ≡ least_vertex ring
least_found it ring r n rest (p, from, whole, is) e =
    e ∙ ap (λ o. unwrap_or o 0) is ∙ place_is p.items ∙ ap least_vertex (items_from_whole_run (YieldsList-from_slice ring rest) p from whole)
