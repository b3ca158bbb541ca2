-- Vertices that stand at one place of a list.
use Rattle.std.proofs.Common.{◌≡◌, ℕ, zero, suc, ◌+◌, ◌-◌, ◌<◌, ◌≤◌, Bool, true, false, cond, not, ◌&&◌, ◌||◌, List, [], ◌∷◌, ◌++◌, drop, get_or, length, map, take, refl, sym, ap, ◌∙◌, arith}
use Rattle.std.specs.List.{sum_by}
use Rattle.std.specs.List.Sorted.{IsPermutation}
use Rattle.std.specs.declared.cmp.Ordering.TheVariants.{Equal}
use Rattle.std.proofs.lemmas.List.{append-nil, length-drop, take-append-drop}
use Rattle.std.proofs.lemmas.List.Sums.{sum_by-cons}
use Rattle.std.proofs.lemmas.List.Sorted.{sum_by-IsPermutation}
use Rattle.grid.specs.declared.pos.Pos.{Pos}
use Rattle.lines.specs.Pairs.{position_eq}
use Rattle.lines.specs.Reading.{is_closed}
use Rattle.lines.specs.Turned.{position_cmp}
use Rattle.lines.specs.Positions.{position_same}
use Rattle.lines.proofs.Positions.{position_refl}
use Rattle.arcs.specs.Among.{among}
use Rattle.lines.proofs.Dropping.{drop_item}
use Rattle.validate.specs.FreeLoops.{goes_free, occurs_once}

abbrev one : Pos → Pos → ℕ
one v x = cond (position_eq v x) 1 0

abbrev is_none : ℕ → Bool
is_none zero = true
is_none (suc n) = false

abbrev is_one : ℕ → Bool
is_one zero = false
is_one (suc n) = is_none n

among_counted : (v : Pos) (l : List Pos) → not (among l v) ≡ is_none (sum_by (one v) l)
among_counted v [] = refl
among_counted v (x ∷ l) =
    go (position_eq v x) (sum_by (one v) l) (among_counted v l)
    ∙ ap is_none (sym (sum_by-cons (one v) x l))
  where
    go : (b : Bool) (n : ℕ) → not (among l v) ≡ is_none n → not (b || among l v) ≡ is_none (cond b 1 0 + n)
    go true n e = let k : 1 + n ≡ suc n = omega arith in sym (ap is_none k)
    go false n e = let k : 0 + n ≡ n = omega arith in e ∙ sym (ap is_none k)

once_counted : (v : Pos) (l : List Pos) → occurs_once l v ≡ is_one (sum_by (one v) l)
once_counted v [] = refl
once_counted v (x ∷ l) =
    go (position_eq v x) (sum_by (one v) l) (among_counted v l) (once_counted v l)
    ∙ ap is_one (sym (sum_by-cons (one v) x l))
  where
    go : (b : Bool) (n : ℕ) → not (among l v) ≡ is_none n → occurs_once l v ≡ is_one n → cond b (not (among l v)) (occurs_once l v) ≡ is_one (cond b 1 0 + n)
    go true n e f = let k : 1 + n ≡ suc n = omega arith in e ∙ sym (ap is_one k)
    go false n e f = let k : 0 + n ≡ n = omega arith in f ∙ sym (ap is_one k)

once_moved : (xs ys : List Pos) → IsPermutation xs ys → (v : Pos) → occurs_once ys v ≡ occurs_once xs v
once_moved xs ys p v = once_counted v ys ∙ ap is_one (sum_by-IsPermutation (one v) xs ys p) ∙ sym (once_counted v xs)

-- the order of the ends does not matter
free_moved : (xs ys : List Pos) → IsPermutation xs ys → (c : List Pos) → goes_free ys c ≡ goes_free xs c
free_moved xs ys p [] = refl
free_moved xs ys p (x ∷ r) = ap (λ b. is_closed position_cmp (x ∷ r) && b) (once_moved xs ys p x)

pub marks_moved : (xs ys : List Pos) → IsPermutation xs ys → (arcs : List (List Pos)) → map (goes_free ys) arcs ≡ map (goes_free xs) arcs
marks_moved xs ys p [] = refl
marks_moved xs ys p (c ∷ arcs) = λ i. free_moved xs ys p c i ∷ marks_moved xs ys p arcs i

among_behind : (a b : List Pos) (v : Pos) → among (a ++ (v ∷ b)) v ≡ true
among_behind [] b v = ap (λ w. w || among b v) (position_refl v)
among_behind (x ∷ a) b v = ap (λ w. position_eq v x || w) (among_behind a b v) ∙ go (position_eq v x)
  where
    go : (t : Bool) → (t || true) ≡ true
    go true = refl
    go false = refl

-- a vertex at a place stands there alone where it is neither before nor behind
pub once_between : (a b : List Pos) (v : Pos) → occurs_once (a ++ (v ∷ b)) v ≡ (not (among a v) && not (among b v))
once_between [] b v = ap (λ w. cond w (not (among b v)) (occurs_once b v)) (position_refl v)
once_between (x ∷ a) b v = go (position_eq v x) (once_between a b v) (among_behind a b v)
  where
    go : (t : Bool) → occurs_once (a ++ (v ∷ b)) v ≡ (not (among a v) && not (among b v)) → among (a ++ (v ∷ b)) v ≡ true →
        cond t (not (among (a ++ (v ∷ b)) v)) (occurs_once (a ++ (v ∷ b)) v) ≡ (not (t || among a v) && not (among b v))
    go true e f = ap not f
    go false e f = e

-- what is nowhere stands at no one place
pub never_once : (l : List Pos) (v : Pos) → among l v ≡ false → occurs_once l v ≡ false
never_once [] v e = refl
never_once (x ∷ l) v e = go (position_eq v x) e (never_once l v)
  where
    go : (t : Bool) → (t || among l v) ≡ false → (among l v ≡ false → occurs_once l v ≡ false) → cond t (not (among l v)) (occurs_once l v) ≡ false
    go true e f = absurd cc
    go false e f = f e

take_all : {A : Type 0} (l : List A) (n : ℕ) → length l ≤ n → take n l ≡ l
take_all [] zero h = refl
take_all [] (suc n) h = refl
take_all (x ∷ l) zero h = absurd (omega (arith, h))
take_all (x ∷ l) (suc n) h = ap (λ w. x ∷ w) (take_all l n (omega (arith, h)))

drop_all : {A : Type 0} (l : List A) (n : ℕ) → length l ≤ n → drop n l ≡ []
drop_all [] zero h = refl
drop_all [] (suc n) h = refl
drop_all (x ∷ l) zero h = absurd (omega (arith, h))
drop_all (x ∷ l) (suc n) h = drop_all l n (omega (arith, h))

-- a vertex at a place of a list, as the code looks for it in both parts
pub once_at : (l : List Pos) (i : ℕ) (v : Pos) → i < length l → ((d : Pos) → position_cmp (get_or l i d) v ≡ Equal) →
    occurs_once l v ≡ (not (among (take i l) v) && not (among (take (length l - (i + 1)) (drop (i + 1) l)) v))
once_at l i v h e =
    let p : v ≡ get_or l i v = sym (position_same (get_or l i v) v (e v)) in
    let q : l ≡ take i l ++ (v ∷ drop (i + 1) l) = sym (take-append-drop i l) ∙ ap (λ w. take i l ++ w) (drop_item l i v h p) in
    let n : length (drop (i + 1) l) ≡ length l - (i + 1) = length-drop (i + 1) l in
    let r : take (length l - (i + 1)) (drop (i + 1) l) ≡ drop (i + 1) l = take_all (drop (i + 1) l) (length l - (i + 1)) (omega (arith, n)) in
    ap (λ w. occurs_once w v) q
    ∙ once_between (take i l) (drop (i + 1) l) v
    ∙ ap (λ w. not (among (take i l) v) && not (among w v)) (sym r)

-- what is made of all members
pub all_made : {A B : Type 0} (f : A → B) (l : List A) (i : ℕ) (made all : List B) → length l ≤ i → made ++ map f (drop i l) ≡ all → made ≡ all
all_made f l i made all h e = sym (ap (λ w. made ++ map f w) (drop_all l i h) ∙ append-nil made) ∙ e
