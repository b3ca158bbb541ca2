-- Digits read one by one, and the first of them as a quotient.
use Rattle.std.proofs.Common.{◌≡◌, ◌↔◌, ℕ, zero, suc, ◌+◌, ◌-◌, ◌*◌, ◌^◌, ◌<◌, ◌≤◌, min, Bool, true, false, IsTrue, List, [], ◌∷◌, ◌++◌, length, get_or, take, drop, inl, inr, refl, sym, zero-mul, ap, ◌∙◌, lit<, arith, mul-le-mul_left, mul-le-mul_right, length-append, length-drop, take_all}
use Rattle.std.proofs.Math.Nat.{pow-le-pow_right}
use Rattle.std.proofs.lemmas.Bool.{cases_lt}
use Rattle.std.proofs.lemmas.Int.Digits.{digits_value-lt}
use Rattle.std.proofs.lemmas.List.{drop_all, take-append-drop}
use Rattle.std.proofs.lemmas.Nat.{pow-add}
use Rattle.std.specs.Char.{digit_value}
use Rattle.std.specs.Str.Parse.{digits_value, digits_value_after, AllDigits}
use Rattle.fast_float.proofs.DigitsLemmas.{digits_value-append, digits_value_after_is}
use Rattle.fast_float.proofs.ExactLemmas.{ten_to_pos}
use Rattle.fast_float.proofs.Rows.{AllDigits-drop}
use Rattle.fast_float.specs.Text.{Parts}
use Rattle.numerals.specs.Quotient.{IsQuotient}
use Rattle.numerals.specs.Floor.{IsKept, first_digits, floor_of, kept_of}

pub after_more : (v : ℕ) (ds : List ℕ) (i : ℕ) → i < length ds
    → digits_value_after 10 v (take (i + 1) ds) ≡ digits_value_after 10 v (take i ds) * 10 + digit_value (get_or ds i 0)
after_more v [] i h = absurd (omega arith)
after_more v (d ∷ ds) zero h = refl
after_more v (d ∷ ds) (suc i) h =
    let e : suc i + 1 ≡ suc (i + 1) = omega arith in
    rw e (after_more (v * 10 + digit_value d) ds i (omega arith))

-- zeros behind a number make no difference from the thirtieth on
pub few_zeros : (v z : ℕ) → min (v * 10 ^ min z 30) (10 ^ 30) ≡ min (v * 10 ^ z) (10 ^ 30)
few_zeros zero z = omega (arith, zero-mul (10 ^ min z 30), zero-mul (10 ^ z))
few_zeros (suc v) z =
    elim (cases_lt 30 z) [
      | inl h ↦
          let e : min z 30 ≡ 30 = omega arith in
          let some : 1 ≤ suc v = omega arith in
          let large : 10 ^ 30 ≤ 10 ^ z = pow-le-pow_right (lit< tt) {i = 30} (omega arith) in
          rw e (omega (arith, large, mul-le-mul_right (10 ^ 30) some, mul-le-mul_right (10 ^ z) some))
      | inr h ↦ let e : min z 30 ≡ z = omega arith in rw e refl
    ]

-- a number that was capped, with more digits
pub after_capped : (v : ℕ) (ds : List ℕ) → min (digits_value_after 10 (min v (10 ^ 30)) ds) (10 ^ 30) ≡ min (digits_value_after 10 v ds) (10 ^ 30)
after_capped v ds =
    elim (cases_lt (10 ^ 30) v) [
      | inl h ↦
          let e : min v (10 ^ 30) ≡ 10 ^ 30 = omega arith in
          let some = ten_to_pos (length ds) in
          rw e (omega (arith, digits_value_after_is (10 ^ 30) ds, digits_value_after_is v ds, mul-le-mul_left (10 ^ 30) some, mul-le-mul_left v some))
      | inr h ↦ let e : min v (10 ^ 30) ≡ v = omega arith in rw e refl
    ]

pub after_append : (v : ℕ) (xs ys : List ℕ) → digits_value_after 10 (digits_value_after 10 v xs) ys ≡ digits_value_after 10 v (xs ++ ys)
after_append v [] ys = refl
after_append v (x ∷ xs) ys = after_append (v * 10 + digit_value x) xs ys

pub capped_times : (v k : ℕ) → 0 < k → min (min v (10 ^ 30) * k) (10 ^ 30) ≡ min (v * k) (10 ^ 30)
capped_times v k some =
    elim (cases_lt (10 ^ 30) v) [
      | inl h ↦ let e : min v (10 ^ 30) ≡ 10 ^ 30 = omega arith in rw e (omega (arith, mul-le-mul_left (10 ^ 30) some, mul-le-mul_left v some))
      | inr h ↦ let e : min v (10 ^ 30) ≡ v = omega arith in rw e refl
    ]

pub take_within : (k : ℕ) (ds : List ℕ) → take (min k (length ds)) ds ≡ take k ds
take_within k ds =
    elim (cases_lt (length ds) k) [
      | inl h ↦ let e : min k (length ds) ≡ length ds = omega arith in rw (e, take_all k ds (omega arith), take_all (length ds) ds (omega arith))
      | inr h ↦ let e : min k (length ds) ≡ k = omega arith in rw e refl
    ]

pub take_both : (k : ℕ) (xs ys : List ℕ) → take k (xs ++ ys) ≡ take k xs ++ take (k - length xs) ys
take_both zero xs ys = let e : zero - length xs ≡ 0 = omega arith in rw e refl
take_both (suc k) [] ys = let e : suc k - 0 ≡ suc k = omega arith in rw e refl
take_both (suc k) (x ∷ xs) ys = let e : suc k - length (x ∷ xs) ≡ k - length xs = omega arith in rw e (ap (λ l. x ∷ l) (take_both k xs ys))

-- the first digits, read from the whole ones and then from the others
pub first_read : (w f : List ℕ) (k i j v u r : ℕ) → i ≡ min k (length w) → j ≡ min (k - i) (length f)
    → v ≡ min (digits_value 10 (take i w)) (10 ^ 30) → u ≡ min (digits_value_after 10 v (take j f)) (10 ^ 30)
    → r ≡ min (u * 10 ^ (k - i - j)) (10 ^ 30) → r ≡ min (first_digits (w ++ f) k) (10 ^ 30)
first_read w f k i j v u r ei ej ev eu er =
    let zeros : k - i - j ≡ k - length (w ++ f) = omega (arith, length-append w f) in
    let front : take i w ≡ take k w = ap (λ x. take x w) ei ∙ take_within k w in
    let place : j ≡ min (k - length w) (length f) = omega arith in
    let back : take j f ≡ take (k - length w) f = ap (λ x. take x f) place ∙ take_within (k - length w) f in
    let joined : take i w ++ take j f ≡ take k (w ++ f) = rw (front, back) (sym (take_both k w f)) in
    let value : u ≡ min (digits_value 10 (take k (w ++ f))) (10 ^ 30) =
    eu ∙ (ap (λ x. min (digits_value_after 10 x (take j f)) (10 ^ 30)) ev
    ∙ (after_capped (digits_value 10 (take i w)) (take j f)
    ∙ ap (λ x. min x (10 ^ 30)) (after_append 0 (take i w) (take j f) ∙ ap (digits_value 10) joined))) in
    er ∙ (ap (λ x. min (x * 10 ^ (k - i - j)) (10 ^ 30)) value
    ∙ (capped_times (digits_value 10 (take k (w ++ f))) (10 ^ (k - i - j)) (ten_to_pos (k - i - j))
    ∙ ap (λ x. min (digits_value 10 (take k (w ++ f)) * 10 ^ x) (10 ^ 30)) zeros))

-- from thirty zeros on it makes no difference how many they are
pub many_zeros : (ds : List ℕ) (j k : ℕ) → length ds + 30 ≤ j → length ds + 30 ≤ k → min (first_digits ds j) (10 ^ 30) ≡ min (first_digits ds k) (10 ^ 30)
many_zeros ds j k p q =
    let e : min (j - length ds) 30 ≡ min (k - length ds) 30 = omega arith in
    rw (take_all j ds (omega arith), take_all k ds (omega arith))
    (sym (few_zeros (digits_value 10 ds) (j - length ds)) ∙ rw e (few_zeros (digits_value 10 ds) (k - length ds)))

split : (ds : List ℕ) (i : ℕ) → digits_value 10 ds ≡ digits_value 10 (take i ds) * 10 ^ (length ds - i) + digits_value 10 (drop i ds)
split ds i = ap (digits_value 10) (sym (take-append-drop i ds)) ∙ rw (digits_value-append, length-drop)

rest_below : (ds : List ℕ) (i : ℕ) → AllDigits 10 ds → digits_value 10 (drop i ds) < 10 ^ (length ds - i)
rest_below ds i h = rw (← length-drop i ds) (digits_value-lt 10 _ (AllDigits-drop i ds h))

more_places : (n d k q : ℕ) → 0 < k → IsQuotient n d q → IsQuotient (n * k) (k * d) (q * 1)
more_places n d k q some h =
    let above : n + 1 ≤ (q + 1) * d = omega (arith, h.high) in
    record { low = omega (arith, mul-le-mul_right k h.low); high = omega (arith, some, mul-le-mul_right k above) }

-- fewer digits than there are
cut : (ds : List ℕ) (a b : ℕ) → AllDigits 10 ds → a < b → IsQuotient (digits_value 10 ds) (10 ^ (b - a)) (digits_value 10 (take (length ds + a - b) ds))
cut ds a b h down =
    let kept = length ds + a - b in
    elim (cases_lt (length ds + a) b) [
      | inr some ↦
          let e : length ds - kept ≡ b - a = omega arith in
          let whole = rw e at (split ds kept) in
          let rest = rw e at (rest_below ds kept h) in
          record { low = omega (arith, whole); high = omega (arith, whole, rest) }
      | inl none ↦
          let e : kept ≡ 0 = omega arith in
          let large : 10 ^ length ds ≤ 10 ^ (b - a) = pow-le-pow_right (lit< tt) {i = length ds} (omega arith) in
          rw e (record { low = omega arith; high = omega (arith, large, digits_value-lt 10 ds h) })
    ]

pub first_digits_is : (ds : List ℕ) (a b : ℕ) → AllDigits 10 ds → IsQuotient (digits_value 10 ds * 10 ^ a) (10 ^ b) (first_digits ds (length ds + a - b))
first_digits_is ds a b h =
    let n = length ds in
    let v = digits_value 10 ds in
    elim (cases_lt a b) [
      | inr up ↦
          let all : take (n + a - b) ds ≡ ds = take_all (n + a - b) ds (omega arith) in
          let zeros : n + a - b - n ≡ a - b = omega arith in
          let sum : a - b + b ≡ a = omega arith in
          let tens : 10 ^ (a - b) * 10 ^ b ≡ 10 ^ a = rw sum at (sym (pow-add 10 (a - b) b)) in
          let same : v * 10 ^ (a - b) * 10 ^ b ≡ v * 10 ^ a = omega (arith, ap (λ x. v * x) tens) in
          rw (all, zeros) (record { low = omega (arith, same); high = omega (arith, same, ten_to_pos b) })
      | inl down ↦
          let none : n + a - b - n ≡ 0 = omega arith in
          let sum : a + (b - a) ≡ b = omega arith in
          let tens : 10 ^ b ≡ 10 ^ a * 10 ^ (b - a) = rw sum at (pow-add 10 a (b - a)) in
          rw (none, tens) (more_places v (10 ^ (b - a)) (10 ^ a) _ (ten_to_pos a) (cut ds a b h down))
    ]

pub kept_below : (p : Parts) (places e kept : ℕ) → p.exponent_negative ≡ true → places < 2 ^ 64 → length p.whole < 2 ^ 64
    → e ≡ min (digits_value 10 p.exponent) (10 ^ 30) → kept ≡ length p.whole + places - e → IsKept places p kept
kept_below p places e kept negative few short capped is =
    let same : kept ≡ length (p.whole ++ p.fraction) + (0 + places) - (length p.fraction + digits_value 10 p.exponent) =
    omega (arith, length-append p.whole p.fraction) in
    record { same = rw negative (inl same) }

pub kept_above : (p : Parts) (places e kept : ℕ) → p.exponent_negative ≡ false → length p.fraction < 2 ^ 64
    → e ≡ min (digits_value 10 p.exponent) (10 ^ 30) → kept ≡ length p.whole + places + e → IsKept places p kept
kept_above p places e kept negative short capped is =
    let long = length-append p.whole p.fraction in
    record {
      same = rw negative (elim (cases_lt (10 ^ 30) (digits_value 10 p.exponent)) [
        | inl many ↦ inr (omega (arith, long), omega (arith, long))
        | inr few ↦ inl (omega (arith, long))
      ]);
    }

pub floor_kept : (p : Parts) (places kept r : ℕ) → IsKept places p kept → r ≡ min (first_digits (p.whole ++ p.fraction) kept) (10 ^ 30)
    → r ≡ min (floor_of places p) (10 ^ 30)
floor_kept p places kept r k h =
    h ∙ elim k.same [
      | inl same ↦ ap (λ x. min (first_digits (p.whole ++ p.fraction) x) (10 ^ 30)) same
      | inr many ↦ many_zeros (p.whole ++ p.fraction) kept (kept_of places p) many.0 many.1
    ]

-- the digits behind those that are kept
pub rest_kept : (p : Parts) (places kept : ℕ) → IsKept places p kept
    → digits_value 10 (drop kept (p.whole ++ p.fraction)) ≡ digits_value 10 (drop (kept_of places p) (p.whole ++ p.fraction))
rest_kept p places kept k =
    let ds = p.whole ++ p.fraction in
    elim k.same [
      | inl same ↦ ap (λ x. digits_value 10 (drop x ds)) same
      | inr many ↦ rw (drop_all kept ds (omega (arith, many.0)), drop_all (kept_of places p) ds (omega (arith, many.1))) refl
    ]

-- all digits, and the zeros of an exponent
pub digits_read : (w f : List ℕ) (v u : ℕ) → v ≡ min (digits_value 10 w) (10 ^ 30) → u ≡ min (digits_value_after 10 v f) (10 ^ 30)
    → u ≡ min (digits_value 10 (w ++ f)) (10 ^ 30)
digits_read w f v u ev eu =
    eu ∙ (ap (λ x. min (digits_value_after 10 x f) (10 ^ 30)) ev ∙ (after_capped (digits_value 10 w) f ∙ ap (λ x. min x (10 ^ 30)) (after_append 0 w f)))

pub zeros_read : (n e u z r : ℕ) → u ≡ min n (10 ^ 30) → z ≡ min e (10 ^ 30) → r ≡ min (u * 10 ^ z) (10 ^ 30) → r ≡ min (n * 10 ^ e) (10 ^ 30)
zeros_read n e u z r eu ez er =
    let same : min z 30 ≡ min e 30 = omega arith in
    er ∙ (ap (λ x. min (x * 10 ^ z) (10 ^ 30)) eu
    ∙ (capped_times n (10 ^ z) (ten_to_pos z) ∙ (sym (few_zeros n z) ∙ rw same (few_zeros n e))))

drop_both : (k : ℕ) (xs ys : List ℕ) → drop k (xs ++ ys) ≡ drop k xs ++ drop (k - length xs) ys
drop_both zero xs ys = let e : zero - length xs ≡ 0 = omega arith in rw e refl
drop_both (suc k) [] ys = let e : suc k - 0 ≡ suc k = omega arith in rw e refl
drop_both (suc k) (x ∷ xs) ys = let e : suc k - length (x ∷ xs) ≡ k - length xs = omega arith in rw e (drop_both k xs ys)

drop_within : (k : ℕ) (ds : List ℕ) → drop (min k (length ds)) ds ≡ drop k ds
drop_within k ds =
    elim (cases_lt (length ds) k) [
      | inl h ↦ let e : min k (length ds) ≡ length ds = omega arith in rw (e, drop_all k ds (omega arith), drop_all (length ds) ds (omega arith))
      | inr h ↦ let e : min k (length ds) ≡ k = omega arith in rw e refl
    ]

-- the digits behind those that are kept, of the whole ones and of the others
pub rest_of_both : (w f : List ℕ) (k i j : ℕ) → i ≡ min k (length w) → j ≡ min (k - i) (length f)
    → digits_value 10 (drop k (w ++ f)) ≡ digits_value 10 (drop i w) * 10 ^ length (drop j f) + digits_value 10 (drop j f)
rest_of_both w f k i j ei ej =
    let front : drop i w ≡ drop k w = ap (λ x. drop x w) ei ∙ drop_within k w in
    let place : j ≡ min (k - length w) (length f) = omega arith in
    let back : drop j f ≡ drop (k - length w) f = ap (λ x. drop x f) place ∙ drop_within (k - length w) f in
    rw (front, back) (ap (digits_value 10) (drop_both k w f) ∙ digits_value-append (drop k w) (drop (k - length w) f))

-- a number is just its first digits where the others are zeros
pub exact_where : (ds : List ℕ) (a b : ℕ) → AllDigits 10 ds
    → (digits_value 10 (drop (length ds + a - b) ds) ≡ 0) ↔ (digits_value 10 ds * 10 ^ a ≡ first_digits ds (length ds + a - b) * 10 ^ b)
exact_where ds a b h =
    let n = length ds in
    let v = digits_value 10 ds in
    elim (cases_lt a b) [
      | inr up ↦
          let all : take (n + a - b) ds ≡ ds = take_all (n + a - b) ds (omega arith) in
          let none : drop (n + a - b) ds ≡ [] = drop_all (n + a - b) ds (omega arith) in
          let zeros : n + a - b - n ≡ a - b = omega arith in
          let sum : a - b + b ≡ a = omega arith in
          let tens : 10 ^ (a - b) * 10 ^ b ≡ 10 ^ a = rw sum at (sym (pow-add 10 (a - b) b)) in
          let same : v * 10 ^ (a - b) * 10 ^ b ≡ v * 10 ^ a = omega (arith, ap (λ x. v * x) tens) in
          rw (all, none, zeros) (λ e. sym same, λ e. refl)
      | inl down ↦
          let kept = n + a - b in
          let none : kept - n ≡ 0 = omega arith in
          let sum : a + (b - a) ≡ b = omega arith in
          let tens : 10 ^ b ≡ 10 ^ a * 10 ^ (b - a) = rw sum at (pow-add 10 a (b - a)) in
          rw none (exact_below v (digits_value 10 (take kept ds)) (digits_value 10 (drop kept ds)) (10 ^ a) (10 ^ (b - a)) (10 ^ b) (ten_to_pos a) tens (below_split ds a b down))
    ]
  where
    below_split : (ds : List ℕ) (a b : ℕ) → a < b → digits_value 10 ds ≡ digits_value 10 (take (length ds + a - b) ds) * 10 ^ (b - a) + digits_value 10 (drop (length ds + a - b) ds)
    below_split ds a b down =
        let kept = length ds + a - b in
        elim (cases_lt (length ds + a) b) [
          | inr some ↦ let e : length ds - kept ≡ b - a = omega arith in rw e at (split ds kept)
          | inl nothing ↦ let e : kept ≡ 0 = omega arith in rw (e, zero-mul) (omega arith)
        ]

    exact_below : (v t r x y z : ℕ) → 0 < x → z ≡ x * y → v ≡ t * y + r → (r ≡ 0) ↔ (v * x ≡ t * 1 * z)
    exact_below v t r x y z some tens sum =
        let all : v * x ≡ t * z + r * x = rw (sum, tens) (omega arith) in (
          λ e. omega (arith, all, ap (λ q. q * x) e),
          λ e. elim (cases_lt 0 r) [
            | inl more ↦ let one : 1 ≤ r = omega arith in absurd (omega (arith, all, e, some, mul-le-mul_right x one))
            | inr none ↦ omega arith
          ],
        )

rest_whole : (k : ℕ) (ds : List ℕ) → take (length ds - k) (drop k ds) ≡ drop k ds
rest_whole k ds = take_all (length ds - k) (drop k ds) (omega (arith, length-drop k ds))

pub rest_digits : (k : ℕ) (ds : List ℕ) → AllDigits 10 ds → AllDigits 10 (take (length ds - k) (drop k ds))
rest_digits k ds h = rw (rest_whole k ds) (AllDigits-drop k ds h)

module _ (p : Parts) (places kept i j : ℕ) (w f : List ℕ) (ew : w ≡ p.whole) (ef : f ≡ p.fraction) (k : IsKept places p kept) (ei : i ≡ min kept (length w)) (ej : j ≡ min (kept - i) (length f)) where
  rest_sum : digits_value 10 (drop (kept_of places p) (p.whole ++ p.fraction))
      ≡ digits_value 10 (take (length w - i) (drop i w)) * 10 ^ length (drop j f) + digits_value 10 (take (length f - j) (drop j f))
  rest_sum =
      sym (rest_kept p places kept k)
      ∙ ((λ n. digits_value 10 (drop kept (sym ew n ++ sym ef n)))
      ∙ (rest_of_both w f kept i j ei ej
      ∙ (λ n. digits_value 10 (sym (rest_whole i w) n) * 10 ^ length (drop j f) + digits_value 10 (sym (rest_whole j f) n))))

  pub nothing_then : (b : Bool) → digits_value 10 (take (length w - i) (drop i w)) ≡ 0 → (IsTrue b ↔ (digits_value 10 (take (length f - j) (drop j f)) ≡ 0))
      → IsTrue b ↔ (digits_value 10 (drop (kept_of places p) (p.whole ++ p.fraction)) ≡ 0)
  nothing_then b none h =
      let none_of : digits_value 10 (take (length w - i) (drop i w)) * 10 ^ length (drop j f) ≡ 0 = rw (none, zero-mul) refl in
      (λ t. omega (arith, rest_sum, none_of, h.0 t), λ e. h.1 (omega (arith, rest_sum, none_of, e)))

  pub something_then : (b : Bool) → b ≡ false → (IsTrue b ↔ (digits_value 10 (take (length w - i) (drop i w)) ≡ 0))
      → digits_value 10 (drop (kept_of places p) (p.whole ++ p.fraction)) ≡ 0 → ⊥
  something_then b off h e =
      elim (cases_lt 0 (digits_value 10 (take (length w - i) (drop i w)))) [
        | inl more ↦
            let one : 1 ≤ digits_value 10 (take (length w - i) (drop i w)) = omega arith in
            omega (arith, rest_sum, e, ten_to_pos (length (drop j f)), mul-le-mul_right (10 ^ length (drop j f)) one)
        | inr none ↦ let t = h.1 (omega arith) in absurd (cc)
      ]
