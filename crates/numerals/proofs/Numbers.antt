-- Numbers of JSON are numerals.
use Rattle.std.proofs.Common.{◌≡◌, ◌≢◌, ℕ, zero, suc, ◌+◌, ◌-◌, ◌<◌, ◌≤◌, true, false, cond, eqb, ◌||◌, ◌==◌, List, [], ◌∷◌, length, get_or, drop, Option, Some, None, option_and_then, inl, inr, refl, sym, ap, ◌∙◌, arith, length-drop, length-take, get_or-drop, ne_eqb, lt-ltb, zero-add}
use Rattle.std.proofs.lemmas.Bool.{cases_Bool, eqb-true}
use Rattle.std.proofs.lemmas.List.Sums.{prefix_len-le-length, prefix_len_passes}
use Rattle.std.specs.Char.{is_ascii_digit}
use Rattle.std.specs.List.{prefix_len}
use Rattle.fast_float.proofs.DigitsLemmas.{digit_range}
use Rattle.fast_float.specs.Text.{digits_end, exponent_start, has_exponent, scan}
use Rattle.json.specs.Word.{head, after_digits, after_minus, after_sign, after_whole, after_fraction, after_exponent, after_number}
use Rattle.numerals.specs.Laws.{NumbersAreNumerals}
use Rattle.numerals.specs.Numeral.{unsigned_text}

abbrev run : List ℕ → ℕ
run t = prefix_len is_ascii_digit t

passed : {A B : Type 0} (f : A → Option B) (o : Option A) (r : B) → option_and_then f o ≡ Some r → (x : A) × (o ≡ Some x) × (f x ≡ Some r)
passed f None r e = absurd (cc)
passed f (Some x) r e = (x, refl, e)

drop_twice : (u : List ℕ) (i j : ℕ) → drop j (drop i u) ≡ drop (i + j) u
drop_twice u zero j = rw zero-add refl
drop_twice [] (suc i) zero = let e : suc i + 0 ≡ suc i = omega arith in rw e refl
drop_twice [] (suc i) (suc j) = let e : suc i + suc j ≡ suc (i + suc j) = omega arith in rw e refl
drop_twice (x ∷ xs) (suc i) j = let e : suc i + j ≡ suc (i + j) = omega arith in rw e (drop_twice xs i j)

-- the byte at an index, as each of the two grammars asks for it
same_head : (u : List ℕ) (i c : ℕ) → 0 < c → c ≢ 32 → eqb (head (drop i u)) c ≡ eqb (get_or u i 0) c
same_head [] zero c p q = ne_eqb 32 c (λ e. q (sym e)) ∙ sym (ne_eqb 0 c (λ e. omega arith))
same_head [] (suc i) c p q = ne_eqb 32 c (λ e. q (sym e)) ∙ sym (ne_eqb 0 c (λ e. omega arith))
same_head (x ∷ xs) zero c p q = refl
same_head (x ∷ xs) (suc i) c p q = same_head xs i c p q

cut_at : (n : ℕ) (t r : List ℕ) → cond (n == 0) None (Some (drop n t)) ≡ Some r → (0 < n) × (r ≡ drop n t)
cut_at zero t r e = absurd (cc)
cut_at (suc n) t r e =
    let f : (suc n == 0) ≡ false = ne_eqb (suc n) 0 (λ z. omega arith) in
    let s : Some (drop (suc n) t) ≡ Some r = rw f at e in
    (omega arith, cc)

-- what follows the digits from i on
run_from : (u r : List ℕ) (i : ℕ) → after_digits (drop i u) ≡ Some r → (0 < run (drop i u)) × (r ≡ drop (digits_end u i) u) × (digits_end u i ≤ length u)
run_from u r i e =
    let a = cut_at (run (drop i u)) (drop i u) r e in
    (a.0, a.1 ∙ drop_twice u i (run (drop i u)), omega (arith, a.0, prefix_len-le-length is_ascii_digit (drop i u), length-drop i u))

none_left : (u : List ℕ) (i : ℕ) → [] ≡ drop i u → length u ≤ i
none_left u i e = omega (arith, ap length e, length-drop i u)

sign_from : (u : List ℕ) (b : ℕ) → after_sign (drop (b + 1) u) ≡ drop (exponent_start u b) u
sign_from u b =
    rw (same_head u (b + 1) 45 (omega arith) (λ e. omega arith), same_head u (b + 1) 43 (omega arith) (λ e. omega arith))
    (elim (cases_Bool (eqb (get_or u (b + 1) 0) 45 || eqb (get_or u (b + 1) 0) 43)) [
      | inl t ↦ rw t (drop_twice u (b + 1) 1 ∙ ap (λ i. drop i u) (omega arith))
      | inr f ↦ rw f refl
    ])

exponent_from : (u : List ℕ) (b : ℕ) → b ≤ length u → after_exponent (drop b u) ≡ Some [] → cond (has_exponent u b) (digits_end u (exponent_start u b)) b ≡ length u
exponent_from u b h e =
    let g = rw (same_head u b 101 (omega arith) (λ e. omega arith), same_head u b 69 (omega arith) (λ e. omega arith)) at e in
    elim (cases_Bool (eqb (get_or u b 0) 101 || eqb (get_or u b 0) 69)) [
      | inl t ↦
          let digits : after_digits (drop (exponent_start u b) u) ≡ Some [] = rw (t, drop_twice u b 1, sign_from u b) at g in
          let a = run_from u [] (exponent_start u b) digits in
          let digit : is_ascii_digit (get_or u (exponent_start u b) 0) ≡ true =
          ap is_ascii_digit (ap (λ i. get_or u i 0) (omega arith) ∙ sym (get_or-drop (exponent_start u b) u 0 0))
          ∙ prefix_len_passes is_ascii_digit (drop (exponent_start u b) u) 0 0 a.0 in
          rw (t, digit) (omega (arith, none_left u (digits_end u (exponent_start u b)) a.1, a.2))
      | inr f ↦
          let rest : Some (drop b u) ≡ Some [] = rw f at g in
          let none : [] ≡ drop b u = cc in
          rw f (omega (arith, none_left u b none))
    ]

fraction_from : (u r : List ℕ) (a : ℕ) → a ≤ length u → after_fraction (drop a u) ≡ Some r
    → (r ≡ drop (cond (eqb (get_or u a 0) 46) (digits_end u (a + 1)) a) u) × (cond (eqb (get_or u a 0) 46) (digits_end u (a + 1)) a ≤ length u)
fraction_from u r a h e =
    let g = rw (same_head u a 46 (omega arith) (λ e. omega arith)) at e in
    elim (cases_Bool (eqb (get_or u a 0) 46)) [
      | inl t ↦
          let digits : after_digits (drop (a + 1) u) ≡ Some r = rw (t, drop_twice u a 1) at g in
          let b = run_from u r (a + 1) digits in
          rw t (b.1, b.2)
      | inr f ↦
          let rest : Some (drop a u) ≡ Some r = rw f at g in
          let same : r ≡ drop a u = cc in
          rw f (same, h)
    ]

no_digit : (r : List ℕ) → option_and_then after_exponent (after_fraction r) ≡ Some [] → is_ascii_digit (head r) ≡ false
no_digit r e =
    elim (cases_Bool (is_ascii_digit (head r))) [
      | inl t ↦
          let range = digit_range (head r) t in
          let point : eqb (head r) 46 ≡ false = ne_eqb (head r) 46 (λ z. omega arith) in
          let lower : eqb (head r) 101 ≡ false = ne_eqb (head r) 101 (λ z. omega arith) in
          let upper : eqb (head r) 69 ≡ false = ne_eqb (head r) 69 (λ z. omega arith) in
          let same : Some r ≡ Some [] = rw (point, lower, upper) at e in
          let none : r ≡ [] = cc in
          absurd (omega (arith, range.0, ap head none))
      | inr f ↦ f
    ]

zero_first : (u : List ℕ) → eqb (head u) 48 ≡ true → is_ascii_digit (head (drop 1 u)) ≡ false → run u ≡ 1
zero_first [] t f = absurd (omega (arith, eqb-true 32 48 t))
zero_first (x ∷ []) t f = rw (eqb-true x 48 t) refl
zero_first (x ∷ y ∷ ys) t f = rw (eqb-true x 48 t, f) refl

whole_from : (u r : List ℕ) → after_whole u ≡ Some r → option_and_then after_exponent (after_fraction r) ≡ Some [] → (0 < run u) × (r ≡ drop (run u) u)
whole_from u r e more =
    elim (cases_Bool (eqb (head u) 48)) [
      | inl t ↦
          let rest : Some (drop 1 u) ≡ Some r = rw t at e in
          let same : r ≡ drop 1 u = cc in
          let one = zero_first u t (no_digit (drop 1 u) (rw same at more)) in
          rw one (omega arith, same)
      | inr f ↦ cut_at (run u) u r (rw f at e)
    ]

minus_same : (t : List ℕ) → after_minus t ≡ unsigned_text t
minus_same t =
    rw (same_head t 0 45 (omega arith) (λ e. omega arith))
    (elim (cases_Bool (eqb (get_or t 0 0) 45)) [ inl a ↦ rw a refl | inr a ↦ rw a refl ])

pub numbers_are_numerals : NumbersAreNumerals
unfolding after_number scan
numbers_are_numerals text h =
    let u = unsigned_text text in
    let g = rw (minus_same text) at h in
    let last = passed after_exponent _ [] g in
    let middle = passed after_fraction (after_whole u) last.0 last.1 in
    let whole = whole_from u middle.0 middle.1 (ap (option_and_then after_exponent) middle.2 ∙ last.2) in
    let fraction = fraction_from u last.0 (run u) (prefix_len-le-length is_ascii_digit u) (rw whole.1 at middle.2) in
    let complete = exponent_from u _ fraction.1 (rw fraction.0 at last.2) in
    record {
      digits = lt-ltb 0 _ (omega (arith, whole.0, length-take (0 + run u - 0) u, prefix_len-le-length is_ascii_digit u));
      complete = rw zero-add complete;
    }
