-- Numerals with no exponent, read digit by digit, and rounded.
use Rattle.std.proofs.Common.{◌≡◌, ℕ, ◌↔◌, ◌+◌, ◌*◌, ◌%◌, ◌^◌, ◌<◌, ◌≤◌, Bool, true, false, Some, List, [], ◌∷◌, ◌++◌, length, IsTrue, refl, sym, ap, ap₂, ◌∙◌, subst, arith, append-nil, append_assoc, length-append}
use Rattle.std.proofs.lemmas.Str.{digit_value_digit}
use Rattle.std.proofs.lemmas.Bool.Decides.{nat_tests}
use Rattle.std.specs.Char.{digit_value}
use Rattle.std.specs.Prelude.{if◌then◌else◌, ◌==◌}
use Rattle.std.specs.Str.Parse.{digits_value, digits_value_after, AllDigits}
use Rattle.fast_float.proofs.Rows.{AllDigits-append}
use Rattle.fast_float.proofs.Writing.{scan-text_of}
use Rattle.fast_float.specs.Text.{Parts, scan, has_digits, digits_of, tens_up, tens_down, IsWellFormed}
use Rattle.numerals.specs.Distance.{AreTenThousandths}
use Rattle.numerals.specs.Nearest.{IsRounded}
use Rattle.numerals.specs.Numeral.{IsUnsigned}
use Rattle.numerals.specs.Short.{IsFront, IsShort}
use Rattle.numerals.proofs.Places.{after_append}

-- a byte less the code of 0
pub digit : (c : ℕ) → c < 256 → (c + 208) % 256 ≤ 9 → (digit_value c < 10) × (digit_value c ≡ (c + 208) % 256)
digit c byte le =
    let low : 48 ≤ c = omega arith in
    let high : c ≤ 57 = omega arith in
    let is = digit_value_digit c (low, high) in
    (omega (arith, is), omega (arith, is))

pub front_none : (v : ℕ) (text : List ℕ) → IsFront v text v text
front_none v text = record { front = []; all = refl; digits = tt; is = refl }

-- one digit more
pub front_more : (v : ℕ) (text : List ℕ) (n m : ℕ) (left behind : List ℕ) (c : ℕ) → left ≡ c ∷ behind → digit_value c < 10 → m ≡ n * 10 + digit_value c
    → IsFront v text n left → IsFront v text m behind
front_more v text n m left behind c is digit value h = record {
  front = h.front ++ (c ∷ []);
  all = h.all ∙ ap (λ l. h.front ++ l) is ∙ sym (append_assoc h.front (c ∷ []) behind);
  digits = AllDigits-append h.front (c ∷ []) h.digits (digit, tt);
  is = value ∙ ap (λ k. k * 10 + digit_value c) h.is ∙ after_append v h.front (c ∷ []);
}

abbrev plain_text : List ℕ → Bool → List ℕ → List ℕ
plain_text w point f = w ++ ((if point then 46 ∷ f else []) ++ [])

abbrev plain : List ℕ → Bool → List ℕ → Parts
plain w point f = record { whole = w; point = point; fraction = f; exponent_negative = false; exponent = []; len = length (plain_text w point f) }

of_plain : (w : List ℕ) (point : Bool) (f text : List ℕ) → AllDigits 10 w → AllDigits 10 f → (point ≡ false → f ≡ []) → 0 < length w → text ≡ plain_text w point f
    → IsShort text (digits_value 10 (w ++ f)) (length f)
of_plain w point f text dw df none some is =
    let p = plain w point f in
    let formed : IsWellFormed p = record { whole_digits = dw; fraction_digits = df; exponent_digits = tt; no_point = none; no_exponent = λ _. refl; len_is = refl } in
    let e : scan text ≡ p = ap scan is ∙ scan-text_of p formed in
    let any : IsTrue (has_digits p) = grind (arith, nat_tests) in
    record {
      some = subst (λ q. IsTrue (has_digits q)) (sym e) any;
      complete = ap (λ (q : Parts). q.len) e ∙ ap length (sym is);
      digits = rw e refl;
      up = rw e refl;
      down = rw e (omega arith);
    }

-- digits alone
pub whole_short : (text left : List ℕ) (n : ℕ) → IsFront 0 text n left → left ≡ [] → length left < length text → IsShort text n 0
whole_short text left n h e some =
    let is : text ≡ h.front = h.all ∙ ap (λ l. h.front ++ l) e ∙ append-nil h.front in
    let long : 0 < length h.front = omega (arith, ap length is, ap length e, some) in
    let value : digits_value 10 (h.front ++ []) ≡ n = ap (digits_value 10) (append-nil h.front) ∙ sym h.is in
    subst (λ k. IsShort text k 0) value (of_plain h.front false [] text h.digits tt (λ _. refl) long (is ∙ sym (append-nil h.front)))

-- digits, a point and digits
pub point_short : (text left behind rest : List ℕ) (n m c : ℕ) → IsFront 0 text n left → left ≡ c ∷ behind → c ≡ 46 → IsFront n behind m rest → rest ≡ []
    → length left < length text → IsShort text m (length behind)
point_short text left behind rest n m c h is dot g e some =
    let end : behind ≡ g.front = g.all ∙ ap (λ l. g.front ++ l) e ∙ append-nil g.front in
    let all : text ≡ h.front ++ 46 ∷ g.front = h.all ∙ ap (λ l. h.front ++ l) (is ∙ ap (λ k. k ∷ behind) dot ∙ ap (λ l. 46 ∷ l) end) in
    let long : 0 < length h.front = omega (arith, ap length h.all, length-append h.front left, some) in
    let value : digits_value 10 (h.front ++ g.front) ≡ m = sym (after_append 0 h.front g.front) ∙ ap (λ k. digits_value_after 10 k g.front) (sym h.is) ∙ sym g.is in
    let same : length g.front ≡ length behind = ap length (sym end) in
    subst (λ k. IsShort text k (length behind)) value
    (subst (λ k. IsShort text (digits_value 10 (h.front ++ g.front)) k) same
    (of_plain h.front true g.front text h.digits g.digits (λ no. absurd cc) long (all ∙ ap (λ l. h.front ++ l) (sym (append-nil (46 ∷ g.front))))))

pub emptied : (l : List ℕ) → length l ≡ 0 → l ≡ []
emptied [] e = refl
emptied (x ∷ l) e = absurd (omega (arith, e))

pub none_left : (l : List ℕ) → (length l == 0) ≡ true → l ≡ []
none_left l e = emptied l (grind (arith, nat_tests))

-- the parts of a short numeral are those of its text
pub short_parts : (u : List ℕ) (number places moved size k : ℕ) (e : Bool) → IsShort u number places → AreTenThousandths (number * 10 ^ moved) (size * 10 ^ places) k e
    → AreTenThousandths (digits_of (scan u) * 10 ^ (tens_up (scan u) + moved)) (size * 10 ^ tens_down (scan u)) k e
short_parts u number places moved size k e s h =
    let sum : tens_up (scan u) + moved ≡ moved = omega (arith, s.up) in
    let n : digits_of (scan u) * 10 ^ (tens_up (scan u) + moved) ≡ number * 10 ^ moved = ap₂ (λ a b. a * 10 ^ b) s.digits sum in
    let d : size * 10 ^ tens_down (scan u) ≡ size * 10 ^ places = ap (λ a. size * 10 ^ a) s.down in
    rw (n, d) h

-- and so is the nearest number of steps
pub short_rounded : (u : List ℕ) (number places moved size q : ℕ) → IsShort u number places → IsRounded (number * 10 ^ moved) (size * 10 ^ places) q
    → IsRounded (digits_of (scan u) * 10 ^ (tens_up (scan u) + moved)) (size * 10 ^ tens_down (scan u)) q
short_rounded u number places moved size q s h =
    let sum : tens_up (scan u) + moved ≡ moved = omega (arith, s.up) in
    let n : digits_of (scan u) * 10 ^ (tens_up (scan u) + moved) ≡ number * 10 ^ moved = ap₂ (λ a b. a * 10 ^ b) s.digits sum in
    let d : size * 10 ^ tens_down (scan u) ≡ size * 10 ^ places = ap (λ a. size * 10 ^ a) s.down in
    rw (n, d) h

-- a short numeral with no digits behind its point is its number
pub short_whole : (u : List ℕ) (number k : ℕ) → number < 2 ^ 64 → IsShort u number 0
    → (Some number ≡ Some k) ↔ (IsUnsigned u × (k * 10 ^ tens_down (scan u) ≡ digits_of (scan u) * 10 ^ tens_up (scan u)) × (k < 2 ^ 64))
short_whole u number k fits s =
    let worth : digits_of (scan u) * 10 ^ tens_up (scan u) ≡ number * 1 = ap₂ (λ a b. a * 10 ^ b) s.digits s.up in
    let all : k * 10 ^ tens_down (scan u) ≡ k * 1 = ap (λ a. k * 10 ^ a) s.down in (
      λ e. let same : number ≡ k = cc in (record { digits = s.some; complete = s.complete }, omega (arith, worth, all, same), omega (arith, same, fits)),
      λ b. ap Some (omega (arith, worth, all, b.1)),
    )
