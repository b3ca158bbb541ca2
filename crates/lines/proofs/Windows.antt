-- The place that `position_min` finds among the windows of a list.
use Rattle.std.proofs.Common.{◌≡◌, ◌≤◌, ◌<◌, ◌+◌, ℕ, Bool, false, List, [], ◌∷◌, length, refl, sym, ap, ◌∙◌, subst, arith, Option, Some, None, unwrap_or, option_map, slice_index_or, All, IfSome}
use denote.Ref.{Bor}
use Rattle.std.specs.Ordering.{is_lt}
use Rattle.std.specs.List.{IsSubsliceAt}
use Rattle.std.specs.Iterator.Runs.{WholeRun, EveryRun, IsWindowsRun}
use Rattle.std.specs.Slice.Iter.{windows_steps, windows_rest, windows_size}
use Rattle.std.specs.declared.slice.Windows.{Windows}
use Rattle.std.proofs.lemmas.Cmp.{lists_total}
use Rattle.std.proofs.lemmas.List.MinMax.{ranks_by}
use Rattle.itertools.specs.Extremes.{PositionFacts, position_of, wins}
use Rattle.itertools.proofs.ExtremeLemmas.{position-least}
use Rattle.grid.specs.declared.pos.Pos.{Pos}
use Rattle.lines.specs.Turned.{position_cmp, list_cmp}
use Rattle.lines.specs.Windows.{window, IsLeastStart}
use Rattle.lines.specs.Positions.{position_total}

abbrev comes_before : Bor (List Pos) → Bor (List Pos) → Bool
comes_before a b = is_lt (list_cmp a.now b.now)

least_facts : (items : List (Bor (List Pos))) → PositionFacts (λ y b. comes_before y b ≡ false) items (position_of (wins false comes_before) items)
least_facts items = position-least comes_before (ranks_by (lists_total position_total) (λ w. w.now)) items

least_index : (xs : List Pos) (items : List (Bor (List Pos))) (n : ℕ) → 2 ≤ length xs → length items + 1 ≡ length xs →
    ((k : ℕ) (d : Bor (List Pos)) → k < length items → (slice_index_or items k d).now ≡ window xs k) →
    n ≡ unwrap_or (position_of (wins false comes_before) items) 0 → IsLeastStart position_cmp xs n
least_index xs items n long count reads e = go (position_of (wins false comes_before) items) (least_facts items) e
  where
    found : (i : ℕ) → i < length items → (d : Bor (List Pos)) → All (λ y. comes_before y (slice_index_or items i d) ≡ false) items → IsLeastStart position_cmp xs i
    found i w d all = record {
      within = omega arith;
      least = λ k h.
          let below : k < length items = omega arith in
          subst (λ v. is_lt (list_cmp v (window xs i)) ≡ false) (reads k d below)
          (subst (λ v. is_lt (list_cmp (slice_index_or items k d).now v) ≡ false) (reads i d w) (all k d below));
    }

    go : (r : Option ℕ) → PositionFacts (λ y b. comes_before y b ≡ false) items r → n ≡ unwrap_or r 0 → IsLeastStart position_cmp xs n
    go None f q = absurd (let z : length items ≡ 0 = ap length f in omega arith)
    go (Some i) f q = subst (IsLeastStart position_cmp xs) (sym q) (first items refl f)
      where
        first : (its : List (Bor (List Pos))) → its ≡ items → PositionFacts (λ y b. comes_before y b ≡ false) items (Some i) → IsLeastStart position_cmp xs i
        first [] s f = absurd (let z : 0 ≡ length items = ap length s in omega arith)
        first (w ∷ ws) s f = found i f.0 w (f.1 w)

-- in the form of the code: the windows of xs, all of them, and the place of the least
pub least_window : (w : Windows Pos) (xs : List Pos) (n : ℕ) (r : Option ℕ) → windows_rest w ≡ xs → windows_size w ≡ 2 → 2 ≤ length xs →
    EveryRun (windows_steps {A = Pos}) (λ p. 0 < windows_size p.from → IsWindowsRun p (windows_size p.from) (windows_rest p.from)) →
    WholeRun (windows_steps {A = Pos}) w (λ p. r ≡ position_of (wins false comes_before) p.items) → n ≡ unwrap_or r 0 → IsLeastStart position_cmp xs n
least_window w xs n r rest size long each (p, from, whole, is) e =
    least_index xs p.items n long count reads (e ∙ ap (λ o. unwrap_or o 0) is)
  where
    size_is : windows_size p.from ≡ 2
    size_is = ap windows_size from ∙ size

    rest_is : windows_rest p.from ≡ xs
    rest_is = ap windows_rest from ∙ rest

    run : IsWindowsRun p 2 xs
    run =
        subst (λ l. IsWindowsRun p 2 l) rest_is
        (subst (λ m. IsWindowsRun p m (windows_rest p.from)) size_is (each p p.seen (omega (arith, size_is))))

    count : length p.items + 1 ≡ length xs
    count = omega (arith, run.1 whole, p.long)

    reads : (k : ℕ) (d : Bor (List Pos)) → k < length p.items → (slice_index_or p.items k d).now ≡ window xs k
    reads k d h = go (p.at k) (p.reads k d (omega (arith, p.long, h))) (run.2 k)
      where
        go : (o : Option (Bor (List Pos))) → option_map (λ y. y) o ≡ Some (slice_index_or p.items k d) →
            IfSome o (λ x. (length x.now ≡ 2) × (k + 2 ≤ length xs) × IsSubsliceAt 2 xs k x.now) → (slice_index_or p.items k d).now ≡ window xs k
        go None a b = absurd cc
        go (Some y) a b = let q : y ≡ slice_index_or p.items k d = cc in subst (λ v. v.now ≡ window xs k) q b.2.0
