-- The computed answer says what the relations say.
use Rattle.std.proofs.Common.{◌≡◌, ℕ, zero, suc, ℤ, pos, negsuc, ◌-ℤ◌, ◌*ℤ◌, ◌≤ℤ◌, ◌&&◌, Bool, true, false, nat_eq, int_le, int_div, int_rem, refl, sym, ap, ◌∙◌, ◌↔◌, IsTrue, arith, rules}
use Rattle.std.specs.Prelude.{Result, Ok, Err, IfOk, IfErr, unsigned_abs}
use Rattle.std.proofs.lemmas.Int.{ints}
use Rattle.std.proofs.lemmas.Bool.Decides.{nat_tests}
use Rattle.grid.specs.declared.limits.TheConstants.{LEAST_GRID_NUMBER, GREATEST_GRID_NUMBER, LEAST_ABSOLUTE_NUMBER, GREATEST_ABSOLUTE_NUMBER}
use Rattle.grid.specs.Place.{Scaling, IsScaling, IsGridNumber, IsAbsolute, IsMultiple, IsOnGrid, IsNumberOf, IsBeyond, FitsAxis, absolute}
use Rattle.grid.specs.Fault.{IsAxisFault}
use Rattle.grid.specs.Computed.{divides, is_grid_number, is_absolute, fits_axis, number_by, axis_number}
use Rattle.grid.specs.declared.transform.AxisFault.{AxisFault}
use Rattle.grid.specs.declared.transform.AxisFault.TheVariants.{OffGrid, OutOfRange}
use Rattle.grid.proofs.Multiples.{same_factor, product_of_quotient, rest_of_multiple, multiple_by_rest}
use Rattle.grid.proofs.Places.{product_by_absolute, on_grid_number}

by_false : (b : Bool) → (b ≡ true → ⊥) → b ≡ false
by_false true h = absurd (h refl)
by_false false h = refl

both : (a b : Bool) → a ≡ true → b ≡ true → (a && b) ≡ true
both true true e f = refl
both true false e f = f
both false b e f = e

pub both_first : (a b : Bool) → (a && b) ≡ true → a ≡ true
both_first true b e = refl
both_first false b e = e

pub both_second : (a b : Bool) → (a && b) ≡ true → b ≡ true
both_second true b e = e
both_second false b e = cc

no_zero : (n : ℕ) → nat_eq (suc n) 0 ≡ true → ⊥
no_zero n e = grind (arith, nat_tests)

pub no_size : (z : ℤ) → nat_eq (unsigned_abs z) 0 ≡ true → z ≡ pos 0
no_size (pos zero) e = refl
no_size (pos (suc n)) e = absurd (no_zero n e)
no_size (negsuc n) e = absurd (no_zero n e)

multiple_by_divides : (s d : ℤ) → divides s d ≡ true → IsMultiple s d
multiple_by_divides s d e = multiple_by_rest s d (no_size (int_rem d s) e)

divides_multiple : (s d : ℤ) → pos 1 ≤ℤ s → IsMultiple s d → divides s d ≡ true
divides_multiple s d h m = ap (λ x. nat_eq (unsigned_abs x) 0) (rest_of_multiple s d h m)

within_test : (least greatest n : ℤ) → least ≤ℤ n → n ≤ℤ greatest → (int_le least n && int_le n greatest) ≡ true
within_test least greatest n h k =
    both (int_le least n) (int_le n greatest) (grind (arith, ints)) (grind (arith, ints))

by_within_test : (least greatest n : ℤ) → (int_le least n && int_le n greatest) ≡ true → (least ≤ℤ n) × (n ≤ℤ greatest)
by_within_test least greatest n e =
    let a = both_first (int_le least n) (int_le n greatest) e in
    let b = both_second (int_le least n) (int_le n greatest) e in
    (omega (arith, ints), omega (arith, ints))

number_test : (n : ℤ) → IsGridNumber n → is_grid_number n ≡ true
number_test n h = within_test LEAST_GRID_NUMBER GREATEST_GRID_NUMBER n h.low h.high

pub by_number_test : (n : ℤ) → is_grid_number n ≡ true → IsGridNumber n
by_number_test n e =
    let w = by_within_test LEAST_GRID_NUMBER GREATEST_GRID_NUMBER n e in record { low = w.0; high = w.1 }

absolute_test : (n : ℤ) → IsAbsolute n → is_absolute n ≡ true
absolute_test n h = within_test LEAST_ABSOLUTE_NUMBER GREATEST_ABSOLUTE_NUMBER n h.low h.high

pub by_absolute_test : (n : ℤ) → is_absolute n ≡ true → IsAbsolute n
by_absolute_test n e =
    let w = by_within_test LEAST_ABSOLUTE_NUMBER GREATEST_ABSOLUTE_NUMBER n e in record { low = w.0; high = w.1 }

-- the quotient is the only factor
quotient_is : (s d n : ℤ) → pos 1 ≤ℤ s → n *ℤ s ≡ d → int_div d s ≡ n
quotient_is s d n h e =
    same_factor (int_div d s) n s h (product_of_quotient s d (rest_of_multiple s d h (record { number = n; product = e })) ∙ sym e)

-- by the test of the multiple, by the test of the limits and by the quotient
by_tests : (b w : Bool) (q n : ℤ) → b ≡ true → w ≡ true → q ≡ n → number_by b w q ≡ Ok n
by_tests b w q n e f g = ap (λ x. number_by x w q) e ∙ (ap (λ x. number_by true x q) f ∙ ap Ok g)

beyond_by_tests : (b w : Bool) (q : ℤ) → b ≡ true → w ≡ false → number_by b w q ≡ Err OutOfRange
beyond_by_tests b w q e f = ap (λ x. number_by x w q) e ∙ ap (λ x. number_by true x q) f

number_has : (s : Scaling) (a n : ℤ) → IsScaling s → IsNumberOf s a n → axis_number s a ≡ Ok n
number_has s a n h m =
    let d : ℤ = a -ℤ s.translate in
    let p : n *ℤ s.scale ≡ d = product_by_absolute s a n m.place in
    let q : int_div d s.scale ≡ n = quotient_is s.scale d n h.scale.low p in
    by_tests (divides s.scale d) (is_grid_number (int_div d s.scale) && is_absolute a) (int_div d s.scale) n
    (divides_multiple s.scale d h.scale.low (on_grid_number s a n m))
    (both (is_grid_number (int_div d s.scale)) (is_absolute a)
    (ap is_grid_number q ∙ number_test n m.fits.number)
    (absolute_test a (rw (sym m.place) m.fits.absolute)))
    q

off_has : (s : Scaling) (a : ℤ) → (IsOnGrid s a → ⊥) → axis_number s a ≡ Err OffGrid
off_has s a n =
    let d : ℤ = a -ℤ s.translate in
    ap (λ x. number_by x (is_grid_number (int_div d s.scale) && is_absolute a) (int_div d s.scale))
    (by_false (divides s.scale d) (λ e. n (multiple_by_divides s.scale d e)))

beyond_has : (s : Scaling) (a : ℤ) → IsScaling s → IsBeyond s a → axis_number s a ≡ Err OutOfRange
beyond_has s a h m =
    let d : ℤ = a -ℤ s.translate in
    let q : int_div d s.scale ≡ m.number = quotient_is s.scale d m.number h.scale.low m.product in
    beyond_by_tests (divides s.scale d) (is_grid_number (int_div d s.scale) && is_absolute a) (int_div d s.scale)
    (divides_multiple s.scale d h.scale.low (record { number = m.number; product = m.product }))
    (by_false (is_grid_number (int_div d s.scale) && is_absolute a) (λ e. m.outside
    (rw (sym q) (by_number_test (int_div d s.scale) (both_first (is_grid_number (int_div d s.scale)) (is_absolute a) e)))
    (by_absolute_test a (both_second (is_grid_number (int_div d s.scale)) (is_absolute a) e))))

-- an answer that the relations allow is the computed one
pub answer_computed : (s : Scaling) (a : ℤ) (r : Result ℤ AxisFault) → IsScaling s → IfOk r (IsNumberOf s a) → IfErr r (IsAxisFault s a) → r ≡ axis_number s a
answer_computed s a (Ok n) h f g = sym (number_has s a n h f)
answer_computed s a (Err OffGrid) h f g = sym (off_has s a g)
answer_computed s a (Err OutOfRange) h f g = sym (beyond_has s a h g)

true_is : (b : Bool) → IsTrue b → b ≡ true
true_is b e = search rules

is_true : (b : Bool) → b ≡ true → IsTrue b
is_true b e = search rules

-- two tests that say the same are one
same_tests : (a b : Bool) → (a ≡ true → b ≡ true) → (b ≡ true → a ≡ true) → a ≡ b
same_tests true b f g = sym (f refl)
same_tests false true f g = g refl
same_tests false false f g = refl

fits_test : (s : Scaling) (n : ℤ) → FitsAxis s n → fits_axis s n ≡ true
fits_test s n h = both (is_grid_number n) (is_absolute (absolute s n)) (number_test n h.number) (absolute_test (absolute s n) h.absolute)

pub by_fits_test : (s : Scaling) (n : ℤ) → fits_axis s n ≡ true → FitsAxis s n
by_fits_test s n e = record {
  number = by_number_test n (both_first (is_grid_number n) (is_absolute (absolute s n)) e);
  absolute = by_absolute_test (absolute s n) (both_second (is_grid_number n) (is_absolute (absolute s n)) e);
}

pub fits_computed : (s : Scaling) (n : ℤ) (b : Bool) → IsTrue b ↔ FitsAxis s n → b ≡ fits_axis s n
fits_computed s n b h =
    same_tests b (fits_axis s n) (λ e. fits_test s n (h.0 (is_true b e))) (λ e. true_is b (h.1 (by_fits_test s n e)))
