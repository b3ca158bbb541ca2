-- Where used arcs begin and end, and what they run along.
use Rattle.std.proofs.Common.{◌≡◌, ◌-◌, Bool, true, false, cond, List, [], ◌∷◌, length, reverse, refl, sym, ap, ◌∙◌, subst, arith, Option, Some, None, slice_get, option_map}
use Rattle.grid.specs.declared.pos.Pos.{Pos}
use Rattle.theory.specs.ArcNumbers.{ArcRef, along}
use Rattle.theory.specs.Lists.{front_of, last_of}
use Rattle.theory.proofs.Reversing.{last_back, reverse-last}
use Rattle.arcs.specs.Ends.{ends_along, ends_if, ends_in}

-- the last of a list
pub last_get : {V : Type 0} (x : V) (l : List V) → slice_get (x ∷ l) (length l) ≡ Some (last_of x l)
last_get x [] = refl
last_get x (y ∷ l) = last_get y l

abbrev first_or : Pos → Option (Pos × Pos) → Pos
first_or d None = d
first_or d (Some e) = e.0

abbrev second_or : Pos → Option (Pos × Pos) → Pos
second_or d None = d
second_or d (Some e) = e.1

-- the last of a list behind x, as the code has it
pub last_means : {A : Type 0} (x a : A) (l : List A) → Some a ≡ slice_get l (length l - 1) → a ≡ last_of x l
last_means x a [] e = absurd cc
last_means x a (y ∷ l) e =
    let k : length (y ∷ l) - 1 ≡ length l = omega arith in
    let m : Some a ≡ Some (last_of y l) = e ∙ ap (slice_get (y ∷ l)) k ∙ last_get y l in
    let f : a ≡ last_of y l = cc in f

-- the ends in either direction, as the code has them
pub ends_backward : (b : Bool) (c r : List Pos) (x y : Pos) → b ≡ true → c ≡ x ∷ r → y ≡ last_of x r → ◌≡◌ {A = Option (Pos × Pos)} (Some (y, x)) (ends_in b c)
ends_backward b c r x y t e f = (λ i. Some (f i, x)) ∙ ap (λ w. ends_in w (x ∷ r)) (sym t) ∙ ap (ends_in b) (sym e)

pub ends_forward : (b : Bool) (c r : List Pos) (x y : Pos) → b ≡ false → c ≡ x ∷ r → y ≡ last_of x r → ◌≡◌ {A = Option (Pos × Pos)} (Some (x, y)) (ends_in b c)
ends_forward b c r x y t e f = (λ i. Some (x, f i)) ∙ ap (λ w. ends_in w (x ∷ r)) (sym t) ∙ ap (ends_in b) (sym e)

-- what a used arc runs along, where the ends along it are known
pub ends_run : (arcs : List (List Pos)) (a : ArcRef) (v w : Pos) → ends_along arcs a ≡ Some (v, w) →
    (q : List Pos) × (along arcs a ≡ Some (v ∷ q)) × (last_of v q ≡ w)
ends_run arcs a v w e = go a.reversed (slice_get arcs a.arc) e
  where
    go : (b : Bool) (o : Option (List Pos)) → ends_if b o ≡ Some (v, w) →
        (q : List Pos) × (option_map (λ c. cond b (reverse c) c) o ≡ Some (v ∷ q)) × (last_of v q ≡ w)
    go b None e = absurd cc
    go b (Some []) e = absurd cc
    go false (Some (x ∷ r)) e =
        let p : x ≡ v = ap (first_or x) e in
        let k : last_of x r ≡ w = ap (second_or x) e in
        (r, ap (λ z. Some (z ∷ r)) p, subst (λ z. last_of z r ≡ w) p k)
    go true (Some (x ∷ r)) e =
        let p : last_of x r ≡ v = ap (first_or x) e in
        let k : x ≡ w = ap (second_or x) e in (
          reverse (front_of x r),
          ap Some (reverse-last x r) ∙ ap (λ z. Some (z ∷ reverse (front_of x r))) p,
          subst (λ z. last_of z (reverse (front_of x r)) ≡ w) p (last_back x r ∙ k),
        )

-- and the ends along it, where what it runs along is known
pub run_ends : (arcs : List (List Pos)) (a : ArcRef) (v : Pos) (q : List Pos) → along arcs a ≡ Some (v ∷ q) → ends_along arcs a ≡ Some (v, last_of v q)
run_ends arcs a v q e = go a.reversed (slice_get arcs a.arc) e
  where
    go : (b : Bool) (o : Option (List Pos)) → option_map (λ c. cond b (reverse c) c) o ≡ Some (v ∷ q) → ends_if b o ≡ Some (v, last_of v q)
    go b None e = absurd cc
    go false (Some []) e = absurd cc
    go true (Some []) e = absurd cc
    go false (Some (x ∷ r)) e =
        let p : x ≡ v = cc in
        let k : r ≡ q = cc in
        λ i. Some (p i, last_of (p i) (k i))
    go true (Some (x ∷ r)) e =
        let f : Some (last_of x r ∷ reverse (front_of x r)) ≡ Some (v ∷ q) = sym (ap Some (reverse-last x r)) ∙ e in
        let p : last_of x r ≡ v = cc in
        let k : reverse (front_of x r) ≡ q = cc in
        let m : x ≡ last_of v q = sym (last_back x r) ∙ (λ i. last_of (p i) (k i)) in
        λ i. Some (p i, m i)
