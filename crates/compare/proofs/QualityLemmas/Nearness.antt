-- Which vertices can be passed over in the search for those near one.
use Rattle.std.proofs.Common.{◌≡◌, ◌<◌, ◌+◌, ◌<ℤ◌, ◌≤ℤ◌, ◌-ℤ◌, ℕ, ℤ, zero, suc, Bool, true, false, not, cond, List, [], ◌∷◌, take, drop, ◌⊎◌, inl, inr, refl, sym, ap, ◌∙◌, subst, Some, slice_get, arith}
use Rattle.std.specs.Prelude.{◌&&◌, ◌||◌, int_lt, unsigned_abs}
use Rattle.std.specs.Ordering.{int_eq}
use Rattle.std.specs.List.{AllByRecursion}
use Rattle.grid.specs.Fits.{x_of, y_of}
use Rattle.compare.specs.Quality.Near.{Ascend, Before, NoneNear, are_near, beyond, near_to, over, within}
use Rattle.compare.specs.declared.quality.vertex.Vertex.{Vertex}
use Rattle.std.proofs.lemmas.Int.{ints}
use Rattle.std.proofs.lemmas.Bool.Decides.{Decides-int_eq, nat_tests}

both_first : (a b : Bool) → (a && b) ≡ true → a ≡ true
both_first true b e = refl
both_first false b e = e

both_second : (a b : Bool) → (a && b) ≡ true → b ≡ true
both_second true b e = e
both_second false b e = cc

either : (a b : Bool) → (a || b) ≡ true → (a ≡ true) ⊎ (b ≡ true)
either true b e = inl refl
either false b e = inr e

not_true : (a : Bool) → not a ≡ true → a ≡ false
not_true true e = cc
not_true false e = refl

none_first : (a b : Bool) → a ≡ false → (a && b) ≡ false
none_first true b e = cc
none_first false b e = refl

none_second : (a b c : Bool) → b ≡ false → (a && (b && c)) ≡ false
none_second true true c e = cc
none_second true false c e = refl
none_second false b c e = refl

-- ---- numbers out of reach

far : (n : ℕ) (a b : ℤ) → within n a b ≡ false → n < unsigned_abs (a -ℤ b)
far n a b e = grind (arith, nat_tests)

not_within : (n : ℕ) (a b : ℤ) → n < unsigned_abs (a -ℤ b) → within n a b ≡ false
not_within n a b h = grind (arith, nat_tests)

less_is : (a b : ℤ) → int_lt a b ≡ true → a <ℤ b
less_is a b e = grind (arith, ints)

-- what is not less than a number above reach is above reach, and what is not greater than one below it is below it
above : (n : ℕ) (y t u : ℤ) → over n y t ≡ true → t ≤ℤ u → within n y u ≡ false
above n y t u o h =
    let l = less_is y t (both_first (int_lt y t) (not (within n y t)) o) in
    let f = far n y t (not_true (within n y t) (both_second (int_lt y t) (not (within n y t)) o)) in
    not_within n y u (omega (arith, ints, l, f, h))

below : (n : ℕ) (y u w : ℤ) → over n w y ≡ true → u ≤ℤ w → within n y u ≡ false
below n y u w o h =
    let l = less_is w y (both_first (int_lt w y) (not (within n w y)) o) in
    let f = far n w y (not_true (within n w y) (both_second (int_lt w y) (not (within n w y)) o)) in
    not_within n y u (omega (arith, ints, l, f, h))

one_column : (a b : ℤ) → int_eq a b ≡ true → a ≡ b
one_column a b e = (Decides-int_eq a b).0 e

-- ---- vertices in order

-- u lies in one column with t and w, from the one up to the other
between : (a b c : ℤ) (d e f : ℤ) → (a <ℤ b) ⊎ ((a ≡ b) × (d <ℤ e)) → (b ≤ℤ c) → (b ≡ c → e ≤ℤ f) → c ≡ a → (d ≤ℤ e) × (e ≤ℤ f)
between a b c d e f (inl l) m k s = absurd (omega (arith, ints, l, m, s))
between a b c d e f (inr (i, l)) m k s = (omega (arith, ints, l), k (sym i ∙ sym s))

-- u comes before w, or is w
abbrev UpTo : Vertex → Vertex → Type 0
UpTo u w = (x_of u.at ≤ℤ x_of w.at) × (x_of u.at ≡ x_of w.at → y_of u.at ≤ℤ y_of w.at)

up_to : (u w : Vertex) → Before u w → UpTo u w
up_to u w (inl l) = (omega (arith, ints, l), λ e. absurd (omega (arith, ints, l, e)))
up_to u w (inr (e, l)) = (omega (arith, ints, e), λ _. omega (arith, ints, l))

up_to_itself : (w : Vertex) → UpTo w w
up_to_itself w = (omega (arith, ints), λ _. omega (arith, ints))

not_near : (n : ℕ) (v t u w : Vertex) → Before t u → UpTo u w → beyond n v t w ≡ true → are_near n v u ≡ false
not_near n v t u w b m e =
    let same = one_column (x_of w.at) (x_of t.at) (both_first _ _ e) in
    let (low, high) = between (x_of t.at) (x_of u.at) (x_of w.at) (y_of t.at) (y_of u.at) (y_of w.at) b m.0 m.1 same in
    none_second (within n (x_of v.at) (x_of u.at)) _ _ (elim (either (over n (y_of v.at) (y_of t.at)) (over n (y_of w.at) (y_of v.at)) (both_second _ _ e)) [
      | inl o ↦ above n (y_of v.at) (y_of t.at) (y_of u.at) o low
      | inr o ↦ below n (y_of v.at) (y_of u.at) (y_of w.at) o high
    ])

all_at : {A : Type 0} (P : A → Type 0) (l : List A) (m : ℕ) (w : A) → AllByRecursion P l → slice_get l m ≡ Some w → P w
all_at P [] m w h e = absurd cc
all_at P (x ∷ l) zero w h e = let s : x ≡ w = cc in subst P s h.0
all_at P (x ∷ l) (suc m) w h e = all_at P l m w h.1 e

-- all up to one that is beyond are out of reach
none_up_to : (n : ℕ) (v t w : Vertex) (l : List Vertex) (m : ℕ) → AllByRecursion (Before t) l → Ascend l → slice_get l m ≡ Some w → beyond n v t w ≡ true → NoneNear n v (take (suc m) l)
none_up_to n v t w [] m b a e o = absurd cc
none_up_to n v t w (u ∷ l) zero b a e o = let s : u ≡ w = cc in (not_near n v t u w b.0 (subst (UpTo u) s (up_to_itself u)) o, tt)
none_up_to n v t w (u ∷ l) (suc m) b a e o = (not_near n v t u w b.0 (up_to u w (all_at (Before u) l m w a.0 e)) o, none_up_to n v t w l m b.1 a.1 e o)

pub beyond_none : (n : ℕ) (v t w : Vertex) (l : List Vertex) (m k : ℕ) → m + 1 ≡ k → Ascend (t ∷ l) → slice_get l m ≡ Some w → beyond n v t w ≡ true → NoneNear n v (take k l)
beyond_none n v t w l m k e a at o = let s : suc m ≡ k = omega (arith, e) in subst (λ j. NoneNear n v (take j l)) s (none_up_to n v t w l m a.0 a.1 at o)

-- ---- what is left

-- what stands behind some that are not near has all that are
pub near_left : (n : ℕ) (v : Vertex) (l : List Vertex) (k : ℕ) → NoneNear n v (take k l) → near_to n v (drop k l) ≡ near_to n v l
near_left n v [] zero h = refl
near_left n v [] (suc k) h = refl
near_left n v (w ∷ l) zero h = refl
near_left n v (w ∷ l) (suc k) h = near_left n v l k h.1 ∙ ap (λ b. cond b (w ∷ near_to n v l) (near_to n v l)) (sym h.0)

all_left : {A : Type 0} (P : A → Type 0) (l : List A) (k : ℕ) → AllByRecursion P l → AllByRecursion P (drop k l)
all_left P [] zero h = h
all_left P [] (suc k) h = h
all_left P (x ∷ l) zero h = h
all_left P (x ∷ l) (suc k) h = all_left P l k h.1

pub left_ascends : (l : List Vertex) (k : ℕ) → Ascend l → Ascend (drop k l)
left_ascends [] zero h = h
left_ascends [] (suc k) h = h
left_ascends (w ∷ l) zero h = h
left_ascends (w ∷ l) (suc k) h = left_ascends l k h.1

pub rest_behind : (v : Vertex) (l : List Vertex) (k : ℕ) → Ascend (v ∷ l) → Ascend (v ∷ drop k l)
rest_behind v l k h = (all_left (Before v) l k h.0, left_ascends l k h.1)

-- ---- past reach in the first direction

past : (n : ℕ) (v t w : Vertex) → within n (x_of v.at) (x_of t.at) ≡ false → Before v t → Before t w → are_near n v w ≡ false
past n v t w e b c =
    let f = far n (x_of v.at) (x_of t.at) e in
    let l : x_of v.at ≤ℤ x_of t.at = (up_to v t b).0 in
    let m : x_of t.at ≤ℤ x_of w.at = (up_to t w c).0 in
    none_first (within n (x_of v.at) (x_of w.at)) _ (not_within n (x_of v.at) (x_of w.at) (omega (arith, ints, f, l, m)))

none_past : (n : ℕ) (v t : Vertex) (l : List Vertex) → within n (x_of v.at) (x_of t.at) ≡ false → Before v t → AllByRecursion (Before t) l → near_to n v l ≡ []
none_past n v t [] e b h = refl
none_past n v t (w ∷ l) e b h = ap (λ c. cond c (w ∷ near_to n v l) (near_to n v l)) (past n v t w e b h.0) ∙ none_past n v t l e b h.1

pub all_past : (n : ℕ) (v t : Vertex) (l : List Vertex) → not (within n (x_of v.at) (x_of t.at)) ≡ true → Ascend (v ∷ (t ∷ l)) → near_to n v (t ∷ l) ≡ []
all_past n v t l e a =
    let out = not_true (within n (x_of v.at) (x_of t.at)) e in
    ap (λ c. cond c (t ∷ near_to n v l) (near_to n v l)) (none_first (within n (x_of v.at) (x_of t.at)) _ out) ∙ none_past n v t l out a.0.0 a.1.0
