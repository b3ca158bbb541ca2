-- Rings turned round.
use Rattle.std.proofs.Common.{◌≡◌, ◌≢◌, Bool, true, false, cond, not, Ordering, Less, Equal, Greater, List, [], ◌∷◌, ◌++◌, refl, sym, ap, ◌∙◌, subst, arith, ℤ, pos, ◌+ℤ◌, ◌-ℤ◌, ◌*ℤ◌, FitsSigned, int_lt, reverse}
use Rattle.std.specs.Int.{int_wrap}
use Rattle.std.proofs.lemmas.Int.{int_wrap_fits, ints}
use Rattle.std.specs.Cmp.Lexicographic.{lists_total}
use Rattle.std.specs.Ordering.{is_lt, ordering_reverse}
use Rattle.std.proofs.lemmas.List.{reverse-reverse}
use Rattle.grid.specs.declared.pos.Pos.{Pos}
use Rattle.lines.specs.Positions.{position_total}
use Rattle.lines.specs.Reading.{ring_of}
use Rattle.lines.specs.Turned.{list_cmp, position_cmp}
use Rattle.theory.specs.Lists.{last_of}
use Rattle.theory.proofs.Lists.{last-snoc}
use Rattle.theory.proofs.Reversing.{reverse-snoc}
use Rattle.fixing.specs.Laws.{HasArea}
use Rattle.fixing.specs.Measures.{area_from, cross, lesser_turn, rewound, turned_to, turns_left, turns_right, twice_area}
use Rattle.fixing.specs.declared.rules.Rewind.{Rewind}
use Rattle.fixing.specs.declared.rules.Rewind.TheVariants.{Keep, Rfc7946, D3}
use mir.Syntax.{w128}

cross_back : (a b c d : ℤ) → (a *ℤ b) -ℤ (c *ℤ d) ≡ pos 0 -ℤ ((c *ℤ d) -ℤ (a *ℤ b))
cross_back a b c d = back (a *ℤ b) (c *ℤ d)
  where
    back : (m n : ℤ) → m -ℤ n ≡ pos 0 -ℤ (n -ℤ m)
    back m n = omega (arith, ints)

added : (a b c : ℤ) → a +ℤ (b +ℤ c) ≡ (a +ℤ b) +ℤ c
added a b c = omega (arith, ints)

nothing : (a : ℤ) → a +ℤ pos 0 ≡ pos 0 +ℤ a
nothing a = omega (arith, ints)

minus_both : (a b : ℤ) → (pos 0 -ℤ b) +ℤ (pos 0 -ℤ a) ≡ pos 0 -ℤ (a +ℤ b)
minus_both a b = omega (arith, ints)

minus_none : pos 0 ≡ pos 0 -ℤ pos 0
minus_none = omega (arith, ints)

-- one position more at the end
area_more : (x : Pos) (l : List Pos) (p : Pos) → area_from x (l ++ (p ∷ [])) ≡ area_from x l +ℤ cross (last_of x l) p
area_more x [] p = nothing (cross x p)
area_more x (y ∷ l) p = ap (λ m. cross x y +ℤ m) (area_more y l p) ∙ added (cross x y) (area_from y l) (cross (last_of y l) p)

-- a list that ends with y, and one position more
area_behind : (s : List Pos) (y p : Pos) → twice_area ((s ++ (y ∷ [])) ++ (p ∷ [])) ≡ twice_area (s ++ (y ∷ [])) +ℤ cross y p
area_behind [] y p = nothing (cross y p)
area_behind (x ∷ s) y p = area_more x (s ++ (y ∷ [])) p ∙ ap (λ q. area_from x (s ++ (y ∷ [])) +ℤ cross q p) (last-snoc x y s)

-- turned round, a ring has the opposite area
pub area_reverse : (l : List Pos) → twice_area (reverse l) ≡ pos 0 -ℤ twice_area l
area_reverse [] = minus_none
area_reverse (x ∷ []) = minus_none
area_reverse (x ∷ (y ∷ l)) =
    ap twice_area (reverse-snoc x (y ∷ l) ∙ ap (λ w. w ++ (x ∷ [])) (reverse-snoc y l))
    ∙ area_behind (reverse l) y x
    ∙ ap (λ w. twice_area w +ℤ cross y x) (sym (reverse-snoc y l))
    ∙ (λ i. area_reverse (y ∷ l) i +ℤ cross_back y.x x.y x.x y.y i)
    ∙ minus_both (cross x y) (area_from y l)

less_back : (a : ℤ) → int_lt (pos 0) a ≡ true → int_lt (pos 0) (pos 0 -ℤ a) ≡ false
less_back a e = grind (arith, ints)

more_back : (a : ℤ) → int_lt (pos 0) a ≡ false → a ≢ pos 0 → int_lt (pos 0) (pos 0 -ℤ a) ≡ true
more_back a e n = grind (arith, ints)

neither : (a : ℤ) → int_lt (pos 0) a ≡ false → int_lt a (pos 0) ≡ false → a ≡ pos 0
neither a e f = grind (arith, ints)

right_back : (a : ℤ) → int_lt (pos 0) a ≡ true → int_lt (pos 0 -ℤ a) (pos 0) ≡ true
right_back a e = grind (arith, ints)

flat_back : (a : ℤ) → a ≡ pos 0 → int_lt (pos 0 -ℤ a) (pos 0) ≡ false
flat_back a e = grind (arith, ints)

flat_left : (a : ℤ) → a ≡ pos 0 → int_lt (pos 0) (pos 0 -ℤ a) ≡ false
flat_left a e = grind (arith, ints)

none_right : (a : ℤ) → a ≡ pos 0 → int_lt a (pos 0) ≡ false
none_right a e = grind (arith, ints)

twice_back : (a : ℤ) → pos 0 -ℤ (pos 0 -ℤ a) ≡ a
twice_back a = omega (arith, ints)

-- the other way round a lesser list is no longer lesser
not_lesser : (r s : Ordering) → s ≡ ordering_reverse r → is_lt r ≡ true → is_lt s ≡ false
not_lesser Less s e h = ap is_lt e
not_lesser Equal s e h = absurd cc
not_lesser Greater s e h = absurd cc

module _ (l : List Pos) (fits : HasArea l) where
  left_is : turns_left l ≡ int_lt (pos 0) (twice_area l)
  left_is = ap (λ m. int_lt (pos 0) m) (int_wrap_fits w128 (twice_area l) fits.ahead)

  right_is : turns_right l ≡ int_lt (twice_area l) (pos 0)
  right_is = ap (λ m. int_lt m (pos 0)) (int_wrap_fits w128 (twice_area l) fits.ahead)

  reversed_is : int_wrap w128 (twice_area (reverse l)) ≡ pos 0 -ℤ twice_area l
  reversed_is = ap (int_wrap w128) (area_reverse l) ∙ int_wrap_fits w128 (pos 0 -ℤ twice_area l) fits.back

  -- by how it turns
  by_turn : (b r left : Bool) → turns_left l ≡ b → turns_right l ≡ r →
      turned_to left l ≡ cond b (cond left l (reverse l)) (cond r (cond left (reverse l) l) (lesser_turn l))
  by_turn b r left e f =
      ap (λ b. cond b (cond left l (reverse l)) (cond (turns_right l) (cond left (reverse l) l) (lesser_turn l))) e
      ∙ ap (λ r. cond b (cond left l (reverse l)) (cond r (cond left (reverse l) l) (lesser_turn l))) f

  reversed_left : turns_left l ≡ false → twice_area l ≢ pos 0 → turns_left (reverse l) ≡ true
  reversed_left e n = ap (λ m. int_lt (pos 0) m) reversed_is ∙ more_back (twice_area l) (sym left_is ∙ e) n

  reversed_not_left : turns_left l ≡ true → turns_left (reverse l) ≡ false
  reversed_not_left e = ap (λ m. int_lt (pos 0) m) reversed_is ∙ less_back (twice_area l) (sym left_is ∙ e)

  flat : turns_left l ≡ false → turns_right l ≡ false → twice_area l ≡ pos 0
  flat e f = neither (twice_area l) (sym left_is ∙ e) (sym right_is ∙ f)

  -- a ring that has an area turns as it is wanted
  pub turned_turns : (left : Bool) → twice_area l ≢ pos 0 → turns_left (turned_to left l) ≡ left
  turned_turns left n = go (turns_left l) refl (turns_right l) refl left
    where
      go : (b : Bool) → turns_left l ≡ b → (r : Bool) → turns_right l ≡ r → (left : Bool) → turns_left (turned_to left l) ≡ left
      go true e r f true = ap turns_left (by_turn true r true e f) ∙ e
      go true e r f false = ap turns_left (by_turn true r false e f) ∙ reversed_not_left e
      go false e true f true = ap turns_left (by_turn false true true e f) ∙ reversed_left e n
      go false e true f false = ap turns_left (by_turn false true false e f) ∙ e
      go false e false f left = absurd (n (flat e f))

pub reversed_area : (l : List Pos) → HasArea l → HasArea (reverse l)
reversed_area l fits = record {
  ahead = subst (FitsSigned w128) (sym (area_reverse l)) fits.back;
  back = subst (FitsSigned w128) (sym (ap (λ m. pos 0 -ℤ m) (area_reverse l) ∙ twice_back (twice_area l))) fits.ahead;
}

-- a ring that was turned stays
pub turned_stays : (left : Bool) (l : List Pos) → HasArea l → turned_to left (turned_to left l) ≡ turned_to left l
turned_stays left l fits = go (turns_left l) refl (turns_right l) refl left
  where
    reversed_fits : HasArea (reverse l)
    reversed_fits = reversed_area l fits

    -- what is turned to a list that stays
    as_list : (left : Bool) (w : List Pos) → turned_to left l ≡ w → turned_to left w ≡ w → turned_to left (turned_to left l) ≡ turned_to left l
    as_list left w e f = ap (turned_to left) e ∙ f ∙ sym e

    flat_reversed : twice_area l ≡ pos 0 → (turns_left (reverse l) ≡ false) × (turns_right (reverse l) ≡ false)
    flat_reversed z = (
      ap (λ m. int_lt (pos 0) m) (reversed_is l fits) ∙ flat_left (twice_area l) z,
      ap (λ m. int_lt m (pos 0)) (reversed_is l fits) ∙ flat_back (twice_area l) z,
    )

    lesser : turns_left l ≡ false → turns_right l ≡ false → (left b : Bool) → is_lt (list_cmp (ring_of position_cmp (reverse l)) (ring_of position_cmp l)) ≡ b →
        turned_to left (turned_to left l) ≡ turned_to left l
    lesser e f left false g =
        let same : turned_to left l ≡ l = by_turn l fits false false left e f ∙ ap (λ b. cond b (reverse l) l) g in
        as_list left l same same
    lesser e f left true g =
        let flat = flat_reversed (flat l fits e f) in
        as_list left (reverse l) (by_turn l fits false false left e f ∙ ap (λ b. cond b (reverse l) l) g)
        (by_turn (reverse l) reversed_fits false false left flat.0 flat.1
        ∙ ap (λ w. cond (is_lt (list_cmp (ring_of position_cmp w) (ring_of position_cmp (reverse l)))) w (reverse l)) (reverse-reverse l)
        ∙ ap (λ b. cond b l (reverse l))
        (not_lesser (list_cmp (ring_of position_cmp (reverse l)) (ring_of position_cmp l)) (list_cmp (ring_of position_cmp l) (ring_of position_cmp (reverse l)))
        ((lists_total position_total).antisymm (ring_of position_cmp l) (ring_of position_cmp (reverse l))) g))

    go : (b : Bool) → turns_left l ≡ b → (r : Bool) → turns_right l ≡ r → (left : Bool) → turned_to left (turned_to left l) ≡ turned_to left l
    go true e r f true = let same = by_turn l fits true r true e f in as_list true l same same
    go true e r f false =
        as_list false (reverse l) (by_turn l fits true r false e f)
        (by_turn (reverse l) reversed_fits false true false (reversed_not_left l fits e)
        (ap (λ m. int_lt m (pos 0)) (reversed_is l fits) ∙ right_back (twice_area l) (sym (left_is l fits) ∙ e)))
    go false e true f true =
        as_list true (reverse l) (by_turn l fits false true true e f)
        (by_turn (reverse l) reversed_fits true (turns_right (reverse l)) true
        (reversed_left l fits e (λ z. absurd (let k : true ≡ false = sym f ∙ right_is l fits ∙ none_right (twice_area l) z in cc))) refl)
    go false e true f false = let same = by_turn l fits false true false e f in as_list false l same same
    go false e false f left = lesser e f left (is_lt (list_cmp (ring_of position_cmp (reverse l)) (ring_of position_cmp l))) refl

-- so does a ring that was turned as it was wanted
pub rewound_stays : (rewind : Rewind) (is_outer : Bool) (l : List Pos) → HasArea l → rewound rewind is_outer (rewound rewind is_outer l) ≡ rewound rewind is_outer l
rewound_stays Keep is_outer l fits = refl
rewound_stays Rfc7946 is_outer l fits = turned_stays is_outer l fits
rewound_stays D3 is_outer l fits = turned_stays (not is_outer) l fits
