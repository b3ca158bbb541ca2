-- Lists that stand one after another in one list, and what stands between their bounds.
use Rattle.std.proofs.Common.{◌≡◌, ◌≤◌, ℕ, zero, suc, ◌+◌, ◌-◌, List, [], ◌∷◌, ◌++◌, map, length, take, drop, Some, None, slice_get, refl, sym, subst, ap, ◌∙◌, arith, append_assoc, get_or, true, false, ltb}
use Rattle.std.proofs.lemmas.Bool.{ltb-true, ltb-false}
use Rattle.std.proofs.lemmas.Option.{slice_get_read, slice_get_past}
use Rattle.std.proofs.lemmas.List.{length-append, length-map, map-append}
use Rattle.std.proofs.Math.Seq.{drop-append_seam, take-append_seam}
use Rattle.std.specs.List.{between}
use Rattle.theory.specs.Lists.{joined}
use Rattle.split_heal.specs.Bounds.{AreBounds, AreEnds, bounds_of, ends_from, parts_between, parts_from}

-- what a look-up finds in a list that is another one
pub stands : (l bs : List ℕ) (i k a : ℕ) → l ≡ bs → true ≡ ltb i (length l) → a ≡ get_or l i a → i ≡ k → slice_get bs k ≡ Some a
stands l bs i k a e h f g = subst (λ w. slice_get bs w ≡ Some a) g (subst (λ w. slice_get w i ≡ Some a) e (slice_get_read l (length l) i a refl (ltb-true i (length l) (sym h)) f))

pub past : (l bs : List ℕ) (i k : ℕ) → l ≡ bs → false ≡ ltb i (length l) → i ≡ k → slice_get bs k ≡ None
past l bs i k e h g = subst (λ w. slice_get bs w ≡ None) g (subst (λ w. slice_get w i ≡ None) e (slice_get_past l i (ltb-false i (length l) (sym h))))

no_next : (n : ℕ) (es : List ℕ) (i : ℕ) → slice_get (n ∷ es) i ≡ None → slice_get es i ≡ None
no_next n [] i e = refl
no_next n (m ∷ es) zero e = let f : Some n ≡ None = e in absurd cc
no_next n (m ∷ es) (suc i) e = no_next m es i e

module _ {A : Type 0} where
  part_at : (n : ℕ) (es : List ℕ) (l : List A) (i a b : ℕ) → slice_get (n ∷ es) i ≡ Some a → slice_get es i ≡ Some b → slice_get (parts_from n es l) i ≡ Some (between a b l)
  part_at n [] l i a b e f = absurd cc
  part_at n (m ∷ es) l zero a b e f = let g : Some n ≡ Some a = e in let h : Some m ≡ Some b = f in cc
  part_at n (m ∷ es) l (suc i) a b e f = part_at m es l i a b e f

  no_part : (n : ℕ) (es : List ℕ) (l : List A) (i : ℕ) → slice_get es i ≡ None → slice_get (parts_from n es l) i ≡ None
  no_part n [] l i e = refl
  no_part n (m ∷ es) l zero e = let f : Some m ≡ None = e in absurd cc
  no_part n (m ∷ es) l (suc i) e = no_part m es l i e

  -- what stands at a place
  pub between_bounds : (bs : List ℕ) (l : List A) (i a b : ℕ) → slice_get bs i ≡ Some a → slice_get bs (suc i) ≡ Some b → slice_get (parts_between bs l) i ≡ Some (between a b l)
  between_bounds [] l i a b e f = absurd cc
  between_bounds (n ∷ es) l i a b e f = part_at n es l i a b e f

  -- nothing stands past the last bound
  pub no_end : (bs : List ℕ) (l : List A) (i : ℕ) → slice_get bs (suc i) ≡ None → slice_get (parts_between bs l) i ≡ None
  no_end [] l i e = refl
  no_end (n ∷ es) l i e = no_part n es l i e

  pub no_begin : (bs : List ℕ) (l : List A) (i : ℕ) → slice_get bs i ≡ None → slice_get (parts_between bs l) i ≡ None
  no_begin [] l i e = refl
  no_begin (n ∷ es) l i e = no_part n es l i (no_next n es i e)

up_to_end : (n : ℕ) (es : List ℕ) (end : ℕ) → AreEnds n es end → n ≤ end
up_to_end n [] end h = h
up_to_end n (m ∷ es) end h = let k = up_to_end m es end h.1 in omega (arith, h.0, k)

ends_within : (n : ℕ) (es : List ℕ) (end i a b : ℕ) → AreEnds n es end → slice_get (n ∷ es) i ≡ Some a → slice_get es i ≡ Some b → (a ≤ b) × (b ≤ end)
ends_within n [] end i a b h e f = absurd cc
ends_within n (m ∷ es) end zero a b h e f =
    let g : Some n ≡ Some a = e in
    let k : Some m ≡ Some b = f in
    let x : n ≡ a = cc in
    let y : m ≡ b = cc in
    let last = up_to_end m es end h.1 in
    (omega (arith, h.0, x, y), omega (arith, last, y))
ends_within n (m ∷ es) end (suc i) a b h e f = ends_within m es end i a b h.1 e f

-- neighbouring bounds are in order and not past the end
pub bounds_within : (bs : List ℕ) (end i a b : ℕ) → AreBounds bs end → slice_get bs i ≡ Some a → slice_get bs (suc i) ≡ Some b → (a ≤ b) × (b ≤ end)
bounds_within [] end i a b h e f = absurd cc
bounds_within (n ∷ es) end i a b h e f = ends_within n es end i a b h e f

ends_are : {A : Type 0} (n : ℕ) (ls : List (List A)) → AreEnds n (ends_from n ls) (n + length (joined ls))
ends_are n [] = omega arith
ends_are n (l ∷ ls) =
    let a : length (l ++ joined ls) ≡ length l + length (joined ls) = length-append l (joined ls) in
    let e : n + length l + length (joined ls) ≡ n + length (l ++ joined ls) = omega (arith, a) in
    (omega arith, subst (AreEnds (n + length l) (ends_from (n + length l) ls)) e (ends_are (n + length l) ls))

-- the bounds of lists are those of a list in which each element is replaced
pub bounds_are : {A B : Type 0} (f : A → B) (ls : List (List A)) (bs : List ℕ) (l : List B) → bs ≡ bounds_of ls → l ≡ map f (joined ls) → AreBounds bs (length l)
bounds_are f ls bs l e g =
    let a : length (map f (joined ls)) ≡ length (joined ls) = length-map (joined ls) f in
    let k : 0 + length (joined ls) ≡ length l = omega (arith, a, ap length g) in
    subst (λ w. AreBounds w (length l)) (sym e) (subst (AreEnds 0 (ends_from 0 ls)) k (ends_are 0 ls))

between_middle : {A : Type 0} (before middle after : List A) (n k : ℕ) → n ≡ length before → k ≡ length middle → between n (n + k) (before ++ (middle ++ after)) ≡ middle
between_middle before middle after n k e f =
    let all = before ++ (middle ++ after) in
    let g : n + k - n ≡ length middle = omega (arith, f) in
    (λ i. take (g i) (drop (e i) all))
    ∙ ap (take (length middle)) (drop-append_seam before (middle ++ after))
    ∙ take-append_seam middle after

parts_again : {A B : Type 0} (f : A → B) (n : ℕ) (before : List B) (ls : List (List A)) → n ≡ length before →
    parts_from n (ends_from n ls) (before ++ map f (joined ls)) ≡ map (map f) ls
parts_again f n before [] e = refl
parts_again f n before (l ∷ ls) e =
    let more = map f (joined ls) in
    let m = n + length l in
    let k : length l ≡ length (map f l) = sym (length-map l f) in
    let all : before ++ map f (l ++ joined ls) ≡ before ++ (map f l ++ more) = ap (λ w. before ++ w) (map-append f l (joined ls)) in
    let next : m ≡ length (before ++ map f l) =
    (let a : length (before ++ map f l) ≡ length before + length (map f l) = length-append before (map f l) in omega (arith, a, k, e)) in
    (λ i. between n m (all i) ∷ parts_from m (ends_from m ls) (all i))
    ∙ (λ i. between_middle before (map f l) more n (length l) e k i ∷ parts_from m (ends_from m ls) (sym (append_assoc before (map f l) more) i))
    ∙ ap (λ w. map f l ∷ w) (parts_again f m (before ++ map f l) ls next)

-- what stands between the bounds of lists, where each element is replaced
pub between_again : {A B : Type 0} (f : A → B) (ls : List (List A)) → parts_between (bounds_of ls) (map f (joined ls)) ≡ map (map f) ls
between_again f ls = parts_again f 0 [] ls refl
