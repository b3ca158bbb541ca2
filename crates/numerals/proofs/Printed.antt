-- What is printed of decimal numbers.
use Rattle.std.proofs.Common.{◌≡◌, ℕ, zero, suc, ◌-◌, ◌*◌, ◌/◌, ◌%◌, ◌^◌, ◌<◌, ◌≤◌, Bool, true, false, cond, ℤ, pos, negsuc, ◌*ℤ◌, List, [], ◌∷◌, ◌++◌, length, take, drop, replicate, inl, inr, refl, sym, subst, ap, ◌∙◌, arith, length-append, length-take, length-drop, ne_eqb, lt-ltb, le-ltb, nat_lt, ◌==◌}
use Rattle.std.proofs.Math.Nat.{pow-suc}
use Rattle.std.proofs.lemmas.Bool.{cases_lt, cases_Bool, eqb-true}
use Rattle.std.proofs.lemmas.Float.Parse.{scan_numeral-text_of}
use Rattle.std.proofs.lemmas.Fmt.{decimal_is_IsNumeral_wide}
use Rattle.std.proofs.lemmas.List.{append-nil, length-replicate, take-append-drop}
use Rattle.std.proofs.lemmas.Nat.{div-add-mod'}
use Rattle.std.specs.Char.{digit_value}
use Rattle.std.specs.Fmt.{decimal, sign_text}
use Rattle.std.specs.Prelude.{unsigned_abs}
use Rattle.std.specs.Str.Parse.{AllDigits, digits_value, starts_with_minus}
use Rattle.fast_float.proofs.Rows.{AllDigits-append, AllDigits-take, AllDigits-drop}
use Rattle.fast_float.specs.Text.{Parts, scan, digits_of, tens_up, tens_down, with_sign, text_of, IsWellFormed}
use Rattle.numerals.specs.Amount.{is_below, shortest, pointed, amount_text, TextsAreWorth}
use Rattle.numerals.specs.Numeral.{parts_of, unsigned_text}
use Rattle.numerals.proofs.Steps.{sign_times}

-- the parts of digits with a point before the last so many
record IsPrinted (digits : List ℕ) (places : ℕ) (p : Parts) : Type 0 where
  formed : IsWellFormed p
  text : text_of p ≡ pointed digits places
  value : digits_of p ≡ digits_value 10 digits
  behind : tens_down p ≡ places
  up : tens_up p ≡ 0
  some : 0 < length p.whole

zeros_are_digits : (n : ℕ) → AllDigits 10 (replicate n 48)
zeros_are_digits zero = tt
zeros_are_digits (suc n) = (omega arith, zeros_are_digits n)

zeros_before : (n : ℕ) (ds : List ℕ) → digits_value 10 (replicate n 48 ++ ds) ≡ digits_value 10 ds
zeros_before zero ds = refl
zeros_before (suc n) ds = zeros_before n ds

-- digits with no exponent, and with a point or without
abbrev printed : List ℕ → Bool → List ℕ → Parts
printed whole point fraction = record {
  whole = whole;
  point = point;
  fraction = fraction;
  exponent_negative = false;
  exponent = [];
  len = length (whole ++ (cond point (46 ∷ fraction) [] ++ []));
}

plain : (ds : List ℕ) → AllDigits 10 ds → 0 < length ds → IsPrinted ds 0 (printed ds false [])
plain ds h some = record {
  formed = record { whole_digits = h; fraction_digits = tt; exponent_digits = tt; no_point = λ e. refl; no_exponent = λ e. refl; len_is = refl };
  text = append-nil ds;
  value = ap (digits_value 10) (append-nil ds);
  behind = refl;
  up = refl;
  some = some;
}

with_point : (whole fraction : List ℕ) → AllDigits 10 whole → AllDigits 10 fraction → IsWellFormed (printed whole true fraction)
with_point whole fraction h g = record { whole_digits = h; fraction_digits = g; exponent_digits = tt; no_point = λ e. absurd (cc); no_exponent = λ e. refl; len_is = refl }

split : (ds : List ℕ) (places : ℕ) → AllDigits 10 ds → 0 < places → places < length ds
    → IsPrinted ds places (printed (take (length ds - places) ds) true (drop (length ds - places) ds))
split ds places h some less =
    let k = length ds - places in
    let pointless : (places == 0) ≡ false = ne_eqb places 0 (λ e. omega arith) in
    let longer : nat_lt places (length ds) ≡ true = lt-ltb _ _ less in
    record {
      formed = with_point (take k ds) (drop k ds) (AllDigits-take k ds h) (AllDigits-drop k ds h);
      text = rw (pointless, longer) (ap (λ l. take k ds ++ (46 ∷ l)) (append-nil (drop k ds)));
      value = ap (digits_value 10) (take-append-drop k ds);
      behind = omega (arith, length-drop k ds);
      up = refl;
      some = omega (arith, length-take k ds);
    }

filled : (ds : List ℕ) (places : ℕ) → AllDigits 10 ds → 0 < places → length ds ≤ places
    → IsPrinted ds places (printed (48 ∷ []) true (replicate (places - length ds) 48 ++ ds))
filled ds places h some more =
    let k = places - length ds in
    let pointless : (places == 0) ≡ false = ne_eqb places 0 (λ e. omega arith) in
    let shorter : nat_lt places (length ds) ≡ false = le-ltb _ _ more in
    record {
      formed = with_point (48 ∷ []) (replicate k 48 ++ ds) (omega arith, tt) (AllDigits-append (replicate k 48) ds (zeros_are_digits k) h);
      text = rw (pointless, shorter) (ap (λ l. 48 ∷ 46 ∷ l) (append-nil (replicate k 48 ++ ds)));
      value = zeros_before k ds;
      behind = omega (arith, length-append (replicate k 48) ds, length-replicate {A = ℕ} k 48);
      up = refl;
      some = omega arith;
    }

parts_printed : (ds : List ℕ) (places : ℕ) → AllDigits 10 ds → 0 < length ds → (p : Parts) × IsPrinted ds places p
parts_printed ds zero h some = (printed ds false [], plain ds h some)
parts_printed ds (suc n) h some =
    elim (cases_lt (suc n) (length ds)) [
      | inl less ↦ (_, split ds (suc n) h (omega arith) less)
      | inr more ↦ (_, filled ds (suc n) h (omega arith) more)
    ]

-- a text that begins with a digit has no sign
unsigned : (ds rest : List ℕ) → AllDigits 10 ds → 0 < length ds → starts_with_minus (ds ++ rest) ≡ false
unsigned [] rest h some = absurd (omega arith)
unsigned (d ∷ ds) rest h some = ne_eqb d 45 (λ e. let k : digit_value 45 < 10 = subst (λ x. digit_value x < 10) e h.0 in omega arith)

sign_of : (negative : Bool) (p : Parts) → IsWellFormed p → 0 < length p.whole
    → (starts_with_minus (sign_text negative ++ text_of p) ≡ negative) × (unsigned_text (sign_text negative ++ text_of p) ≡ text_of p)
sign_of true p w some = (refl, refl)
sign_of false p w some =
    let none : starts_with_minus (text_of p) ≡ false = unsigned p.whole _ w.whole_digits some in
    (none, rw none refl)

tens_off : (s t q k size : ℕ) → s * t ≡ q * k → q * 10 ≡ size → s * (t * 10) ≡ size * k
tens_off s t q k size e f = rw (← f) (omega (arith, e))

-- the zeros that are left out make no difference
shortest_is : (places size : ℕ) → (shortest places size).size * 10 ^ places ≡ size * 10 ^ (shortest places size).places
shortest_is zero size = refl
shortest_is (suc places) size =
    elim (cases_Bool (size % 10 == 0)) [
      | inl t ↦
          let whole : size % 10 ≡ 0 = eqb-true _ _ t in
          let off = tens_off (shortest places (size / 10)).size (10 ^ places) (size / 10) (10 ^ (shortest places (size / 10)).places) size (shortest_is places (size / 10)) (omega (arith, div-add-mod' size 10)) in
          rw (t, pow-suc 10 places) off
      | inr f ↦ rw f refl
    ]

shortest_at_most : (places size : ℕ) → (shortest places size).size ≤ size
shortest_at_most zero size = omega arith
shortest_at_most (suc places) size =
    elim (cases_Bool (size % 10 == 0)) [
      | inl t ↦ rw t (omega (arith, shortest_at_most places (size / 10), div-add-mod' size 10))
      | inr f ↦ rw f (omega arith)
    ]

signed_is : (z : ℤ) → with_sign (is_below z) (unsigned_abs z) ≡ z
signed_is (pos n) = refl
signed_is (negsuc n) = refl

-- sizes over powers of ten, with a sign
crossed : (negative : Bool) (a b c d : ℕ) → a * b ≡ c * d → with_sign negative a *ℤ pos b ≡ with_sign negative c *ℤ pos d
crossed negative a b c d e = sign_times negative a b ∙ (ap (with_sign negative) e ∙ sym (sign_times negative c d))

worth_of : (z : ℤ) (s t k : ℕ) → s * t ≡ unsigned_abs z * k → with_sign (is_below z) (s * 1) *ℤ pos t ≡ z *ℤ pos k
worth_of z s t k e = crossed (is_below z) (s * 1) t (unsigned_abs z) k (omega (arith, e)) ∙ ap (λ x. x *ℤ pos k) (signed_is z)

pub texts_are_worth : TextsAreWorth
texts_are_worth a small =
    let s = shortest a.places (unsigned_abs a.value) in
    let negative = is_below a.value in
    let number = decimal_is_IsNumeral_wide s.size (omega (arith, shortest_at_most a.places (unsigned_abs a.value), small)) in
    let found = parts_printed (decimal s.size) s.places number.0.1 number.0.0 in
    let p = found.0 in
    let is = found.1 in
    let text : sign_text negative ++ text_of p ≡ amount_text a = ap (λ l. sign_text negative ++ l) is.text in
    let sign = sign_of negative p is.formed is.some in
    let minus : starts_with_minus (amount_text a) ≡ negative = ap starts_with_minus (sym text) ∙ sign.0 in
    let rest : unsigned_text (amount_text a) ≡ text_of p = ap unsigned_text (sym text) ∙ sign.1 in
    let read : parts_of (amount_text a) ≡ p = ap scan rest ∙ scan_numeral-text_of p is.formed in
    let number_is : digits_of p ≡ s.size = is.value ∙ number.1 in
    record {
      numeral = record {
        digits = rw read (lt-ltb 0 _ (omega (arith, is.some)));
        complete = rw (read, rest) (is.formed.len_is);
      };
      worth = rw (read, minus, number_is, is.up, is.behind) (worth_of a.value s.size (10 ^ a.places) (10 ^ s.places) (shortest_is a.places (unsigned_abs a.value)));
    }
