-- Lemmas on the places of offsets by their numbers.
use Rattle.std.proofs.Common.{◌≡◌, ℕ, ◌+◌, ◌<◌, ◌≤◌, ◌≢◌, ◌-◌, ◌++◌, ◌⊎◌, All, Contains, List, [], ◌∷◌, Some, ap, arith, false, get_or, inl, inr, length, refl, set, slice_get, subst, suc, sym, take, zero, Ordering, Less, Equal, Greater, Err, IfOk, Ok, Result, vec_len, ◌∙◌}
use Rattle.std.proofs.Math.Seq.{take-add}
use Rattle.std.proofs.lemmas.Bool.{cases_eq}
use Rattle.std.proofs.lemmas.List.{get_or_default, length-set}
use Rattle.std.proofs.lemmas.List.Elements.{All-contains, All-from_get_or, All-more, All-take}
use Rattle.std.proofs.lemmas.List.Sorted.{All-permutation, Contains-permutation, IsNonDecreasingBy-from_sort, length_permutation}
use Rattle.std.proofs.lemmas.Option.{get_or_from_slice_get, slice_get-get_or, slice_get_within}
use Rattle.std.specs.List.Sorted.{IsNonDecreasingBy, IsPermutation, IsSorted}
use Rattle.std.specs.Global.{Vec}
use Rattle.std.specs.List.{slice_range}
use Rattle.std.specs.Ordering.{is_lt, nat_cmp, ordering_then}
use Rattle.fault_reports.specs.LineColumns.{IsNumbered, IsPlacedIn, offset_of, place_behind}
use Rattle.fault_reports.specs.declared.line_columns.LineColumn.{LineColumn}

-- an element after a write
get_set_same : {X : Type 0} (xs : List X) (i : ℕ) (y : X) → i < length xs → slice_get (set xs i y) i ≡ Some y
get_set_same [] i y h = absurd (omega arith)
get_set_same (x ∷ xs) zero y h = refl
get_set_same (x ∷ xs) (suc i) y h = get_set_same xs i y (omega arith)

get_set_other : {X : Type 0} (xs : List X) (i j : ℕ) (y : X) → j ≢ i → slice_get (set xs i y) j ≡ slice_get xs j
get_set_other [] i j y h = refl
get_set_other (x ∷ xs) zero zero y h = absurd (h refl)
get_set_other (x ∷ xs) zero (suc j) y h = refl
get_set_other (x ∷ xs) (suc i) zero y h = refl
get_set_other (x ∷ xs) (suc i) (suc j) y h = get_set_other xs i j y (λ e. h (ap suc e))

-- what a walk along a text does at the next offset: it goes on to that, or stays where it is
pub record Walks (text : List ℕ) (from to o : ℕ) (here : LineColumn) : Type 0 where
  pub within : to ≤ length text
  pub is : here ≡ place_behind (take to text)
  pub not_past : from ≤ o → to ≤ o
  pub reaches : from ≤ o → o ≤ length text → to ≡ o

pub goes_on : (text between : List ℕ) (from to o : ℕ) (here : LineColumn) → ((from ≤ o) × (o ≤ length text) × (between ≡ slice_range text from o) × (length between + from ≡ o)) → to ≡ o → here ≡ place_behind (take from text ++ between) → Walks text from to o here
goes_on text between from to o here part e is =
    let whole : take o text ≡ take from text ++ between = ap (λ n. take n text) (omega (arith, part.0)) ∙ take-add from (o - from) text ∙ ap (λ b. take from text ++ b) (sym part.2) in
    record {
      within = omega (arith, part.1, e);
      is = is ∙ ap place_behind (sym whole) ∙ ap (λ n. place_behind (take n text)) (sym e);
      not_past = λ h. omega (arith, e);
      reaches = λ h w. e;
    }

pub stays : (text : List ℕ) (from to o : ℕ) (here : LineColumn) → ((o < from) ⊎ (length text < o)) → from ≤ length text → to ≡ from → here ≡ place_behind (take from text) → Walks text from to o here
stays text from to o here past within e is = record {
  within = omega arith;
  is = is ∙ ap (λ n. place_behind (take n text)) (sym e);
  not_past = λ h. omega arith;
  reaches = λ h w. absurd (elim past [ inl less ↦ omega arith | inr more ↦ omega arith ]);
}

-- two offsets of one number
one_offset : (offsets : List ℕ) (e f : ℕ × ℕ) → IsNumbered offsets e → IsNumbered offsets f → e.1 ≡ f.1 → e.0 ≡ f.0
one_offset offsets e f he hf same = let g : slice_get offsets e.1 ≡ slice_get offsets f.1 = ap (slice_get offsets) same in cc

-- a place that is written at its offset's number
placed_here : (text : List ℕ) (places : List LineColumn) (here : LineColumn) (f : ℕ × ℕ) → (f.0 ≤ length text → here ≡ place_behind (take f.0 text)) → IsPlacedIn text (set places f.1 here) f
placed_here text places here f is within in' = get_set_same places f.1 here (subst (λ n. f.1 < n) (length-set places f.1 here) in') ∙ ap Some (is within)

placed_set : (text offsets : List ℕ) (places : List LineColumn) (here : LineColumn) (e f : ℕ × ℕ) → IsNumbered offsets e → IsNumbered offsets f → (f.0 ≤ length text → here ≡ place_behind (take f.0 text)) → IsPlacedIn text places e → IsPlacedIn text (set places f.1 here) e
placed_set text offsets places here e f he hf is old within in' =
    elim (cases_eq e.1 f.1) [
      | inl same ↦
          let o : e.0 ≡ f.0 = one_offset offsets e f he hf same in
          ap (slice_get (set places f.1 here)) same ∙ placed_here text places here f is (omega (arith, o)) (omega (arith, same)) ∙ ap (λ n. Some (place_behind (take n text))) (sym o)
      | inr other ↦ get_set_other places f.1 e.1 here other ∙ old within (subst (λ n. e.1 < n) (length-set places f.1 here) in')
    ]

pub placed_more : (text offsets : List ℕ) (places after : List LineColumn) (here : LineColumn) (entries : List (ℕ × ℕ)) (i : ℕ) (d : ℕ × ℕ) → All (IsNumbered offsets) entries → i < length entries
    → ((get_or entries i d).0 ≤ length text → here ≡ place_behind (take (get_or entries i d).0 text)) → after ≡ set places (get_or entries i d).1 here → All (IsPlacedIn text places) (take i entries) → All (IsPlacedIn text after) (take (i + 1) entries)
placed_more text offsets places after here entries i d numbered in' is e old =
    let P : ℕ × ℕ → Type 0 = IsPlacedIn text (set places (get_or entries i d).1 here) in
    let Q : List LineColumn → Type 0 = λ l. All (IsPlacedIn text l) (take (i + 1) entries) in
    subst Q (sym e)
    (All-more P entries i d in'
    (λ k x h. placed_set text offsets places here _ (get_or entries i d) (All-take (IsNumbered offsets) i entries numbered k x h) (numbered i d in') is (old k x h))
    (placed_here text places here (get_or entries i d) is))

-- pairs in order have their offsets in order
not_less : (o p : Ordering) → is_lt (ordering_then o p) ≡ false → is_lt o ≡ false
not_less Less p h = h
not_less Equal p h = refl
not_less Greater p h = refl

pub offsets_ascend : (entries : List (ℕ × ℕ)) → IsSorted (λ a b. ordering_then (nat_cmp a.0 b.0) (nat_cmp a.1 b.1)) entries → IsNonDecreasingBy offset_of entries
offsets_ascend entries sorted = IsNonDecreasingBy-from_sort offset_of entries (λ k d low high.
    let a : ℕ × ℕ = get_or entries (k + 1) d in
    let b : ℕ × ℕ = get_or entries k d in
    not_less (nat_cmp a.0 b.0) (nat_cmp a.1 b.1) (sorted k d low high))

-- offsets beside their numbers, in order of the numbers
pub record IsNumbering (offsets : List ℕ) (entries : List (ℕ × ℕ)) : Type 0 where
  pub len : length entries ≡ length offsets
  pub each : (k : ℕ) → k < length entries → get_or entries k (0, 0) ≡ (get_or offsets k 0, k)

numbered_each : (offsets : List ℕ) (entries : List (ℕ × ℕ)) → IsNumbering offsets entries → All (IsNumbered offsets) entries
numbered_each offsets entries h = All-from_get_or (IsNumbered offsets) entries (0, 0)
    (λ k in'.
    let lt : k < length offsets = omega (arith, h.len) in
    let P : ℕ × ℕ → Type 0 = λ e. IsNumbered offsets e in
    subst P (sym (h.each k in')) (slice_get-get_or offsets k 0 lt))

has_each : (offsets : List ℕ) (entries : List (ℕ × ℕ)) → IsNumbering offsets entries → (n o : ℕ) → slice_get offsets n ≡ Some o → Contains entries (o, n)
has_each offsets entries h n o is =
    let in' : n < length offsets = slice_get_within offsets n o is in
    let lt : n < length entries = omega (arith, h.len) in
    let e : get_or entries n (0, 0) ≡ (o, n) = h.each n lt ∙ ap (λ x. let p : ℕ × ℕ = (x, n) in p) (get_or_from_slice_get offsets n o 0 is) in
    (n, lt, get_or_default entries n (o, n) (0, 0) lt ∙ e)

pub places_of_all : (text offsets : List ℕ) (entries sorted : List (ℕ × ℕ)) (places : List LineColumn) → IsNumbering offsets entries → IsPermutation entries sorted → IsSorted (λ a b. ordering_then (nat_cmp a.0 b.0) (nat_cmp a.1 b.1)) sorted
    → length places ≡ length sorted → ((os : List ℕ) → All (IsNumbered os) sorted → IsNonDecreasingBy offset_of sorted → All (IsPlacedIn text places) sorted)
    → (n o : ℕ) → slice_get offsets n ≡ Some o → o ≤ length text → slice_get places n ≡ Some (place_behind (take o text))
places_of_all text offsets entries sorted places h moved ascend len all n o is within =
    let in' : n < length offsets = slice_get_within offsets n o is in
    let numbered : All (IsNumbered offsets) sorted = All-permutation (IsNumbered offsets) entries sorted moved (numbered_each offsets entries h) in
    let placed : All (IsPlacedIn text places) sorted = all offsets numbered (offsets_ascend sorted ascend) in
    All-contains (IsPlacedIn text places) sorted (o, n) placed (Contains-permutation entries sorted (o, n) moved (has_each offsets entries h n o is)) within (omega (arith, h.len, len, length_permutation entries sorted moved))

pub all_places : {E : Type 0} (text offsets : List ℕ) (entries sorted slice : List (ℕ × ℕ)) (r : Result (Vec LineColumn) E) → IsNumbering offsets entries → IsPermutation entries sorted → IsSorted (λ a b. ordering_then (nat_cmp a.0 b.0) (nat_cmp a.1 b.1)) sorted
    → slice ≡ sorted → IfOk r (λ v. vec_len v ≡ length slice) → IfOk r (λ v. (os : List ℕ) → All (IsNumbered os) slice → IsNonDecreasingBy offset_of slice → All (IsPlacedIn text v.items) slice)
    → IfOk r (λ v. (n o : ℕ) → slice_get offsets n ≡ Some o → o ≤ length text → slice_get v.items n ≡ Some (place_behind (take o text)))
all_places text offsets entries sorted slice (Ok v) h moved ascend is len all =
    let P : List (ℕ × ℕ) → Type 0 = λ s. (os : List ℕ) → All (IsNumbered os) s → IsNonDecreasingBy offset_of s → All (IsPlacedIn text v.items) s in
    places_of_all text offsets entries sorted v.items h moved ascend (sym v.ok.0 ∙ len ∙ ap length is) (subst P is all)
all_places text offsets entries sorted slice (Err e) h moved ascend is len all = tt
