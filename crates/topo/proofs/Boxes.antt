-- The box around positions depends on which positions there are, not on their order or number.
use Rattle.std.proofs.Common.{◌≡◌, ℤ, List, [], ◌∷◌, ◌++◌, ◌⊎◌, inl, inr, refl, sym, ap, ◌∙◌, subst, cond, Bool, true, false, ◌≤ℤ◌, ◌+ℤ◌, ◌*ℤ◌, pos, Option, Some, None, arith, append_assoc}
use Rattle.std.proofs.lemmas.Int.{ints, clamps}
use Rattle.std.specs.Int.{int_min, int_max}
use Rattle.std.specs.Prelude.{int_lt}
use Rattle.grid.specs.Place.{Transform, Scaling, IsScaling, IsTransform, IsGridNumber, absolute}
use Rattle.grid.specs.Fits.{absolute_place, x_of, y_of}
use Rattle.grid.proofs.Multiples.{times_order}
use Rattle.grid.specs.declared.pos.Pos.{Pos}
use Rattle.theory.specs.Lists.{Has}
use Rattle.theory.proofs.Lists.{Has-append, Has-append_left, Has-append_right, append_nil}
use Rattle.topo.specs.Parts.{Corners}
use Rattle.topo.specs.Box.{widened_at, box_by, box_of, numbers_of, AreGridNumbers, absolute_corners}

pub box_append : (index : Pos → ℤ × ℤ) (b : Option Corners) (xs ys : List Pos) → box_by index b (xs ++ ys) ≡ box_by index (box_by index b xs) ys
box_append index b [] ys = refl
box_append index b (x ∷ xs) ys = box_append index (Some (widened_at b (index x))) xs ys

abbrev AtMost : ℤ → ℤ → Type 0
AtMost a b = a ≤ℤ b

abbrev AtLeast : ℤ → ℤ → Type 0
AtLeast a b = b ≤ℤ a

record IsOrder (R : ℤ → ℤ → Type 0) : Type 0 where
  self : (a : ℤ) → R a a
  trans : (a b c : ℤ) → R a b → R b c → R a c
  same : (a b : ℤ) → R a b → R b a → a ≡ b

at_most : IsOrder AtMost
at_most = record {
  self = λ a. omega (arith, ints);
  trans = λ a b c h k. omega (arith, ints);
  same = λ a b h k. omega (arith, ints);
}

at_least : IsOrder AtLeast
at_least = record {
  self = at_most.self;
  trans = λ a b c h k. at_most.trans c b a k h;
  same = λ a b h k. at_most.same a b k h;
}

-- of two numbers the one that comes first in the order is chosen
record IsChoice (R : ℤ → ℤ → Type 0) (choose : ℤ → ℤ → ℤ) : Type 0 where
  order : IsOrder R
  one : (a b : ℤ) → (choose a b ≡ a) ⊎ (choose a b ≡ b)
  left : (a b : ℤ) → R (choose a b) a
  right : (a b : ℤ) → R (choose a b) b

one_of_two : (a b : ℤ) (c : Bool) → (cond c a b ≡ a) ⊎ (cond c a b ≡ b)
one_of_two a b true = inl refl
one_of_two a b false = inr refl

either_way : {A B : Type 0} → A ⊎ B → B ⊎ A
either_way (inl it) = inr it
either_way (inr it) = inl it

lesser : IsChoice AtMost int_min
lesser = record {
  order = at_most;
  one = λ a b. either_way (one_of_two b a (int_lt b a));
  left = λ a b. omega (arith, ints, clamps);
  right = λ a b. omega (arith, ints, clamps);
}

greater : IsChoice AtLeast int_max
greater = record {
  order = at_least;
  one = λ a b. one_of_two a b (int_lt b a);
  left = λ a b. omega (arith, ints, clamps);
  right = λ a b. omega (arith, ints, clamps);
}

-- a is the first of what f gives of the positions: the least by AtMost, the greatest by AtLeast
record IsFirst (R : ℤ → ℤ → Type 0) (f : Pos → ℤ) (ps : List Pos) (a : ℤ) : Type 0 where
  all : (p : Pos) → Has p ps → R a (f p)
  there : (p : Pos) × Has p ps × (a ≡ f p)

one_of : (q p : Pos) → Has q (p ∷ []) → q ≡ p
one_of q p (inl e) = e
one_of q p (inr h) = absurd h

abbrev AllIn : List Pos → List Pos → Type 0
AllIn ps qs = (p : Pos) → Has p ps → Has p qs

module _ {R : ℤ → ℤ → Type 0} {choose : ℤ → ℤ → ℤ} (of : IsChoice R choose) (f : Pos → ℤ) where
  first_one : (p : Pos) → IsFirst R f (p ∷ []) (f p)
  first_one p = record {
    all = λ q h. subst (λ w. R (f p) (f w)) (sym (one_of q p h)) (of.order.self (f p));
    there = (p, inl refl, refl);
  }

  first_more : (ps : List Pos) (a : ℤ) (p : Pos) → IsFirst R f ps a → IsFirst R f (ps ++ (p ∷ [])) (choose a (f p))
  first_more ps a p h = record {
    all = λ q k. elim (Has-append q ps (p ∷ []) k) [
      | inl j ↦ of.order.trans (choose a (f p)) a (f q) (of.left a (f p)) (h.all q j)
      | inr j ↦ subst (λ w. R (choose a (f p)) (f w)) (sym (one_of q p j)) (of.right a (f p))
    ];
    there = elim (of.one a (f p)) [
      | inl e ↦ (h.there.0, Has-append_left h.there.0 ps (p ∷ []) h.there.1, e ∙ h.there.2)
      | inr e ↦ (p, Has-append_right p ps (p ∷ []) (inl refl), e)
    ];
  }

  first_same : (ps qs : List Pos) (a b : ℤ) → AllIn ps qs → AllIn qs ps → IsFirst R f ps a → IsFirst R f qs b → a ≡ b
  first_same ps qs a b to from h k =
      of.order.same a b
      (subst (λ w. R a w) (sym k.there.2) (h.all k.there.0 (from k.there.0 k.there.1)))
      (subst (λ w. R b w) (sym h.there.2) (k.all h.there.0 (to h.there.0 h.there.1)))

module _ (index : Pos → ℤ × ℤ) where
  record IsAround (ps : List Pos) (b : Corners) : Type 0 where
    west : IsFirst AtMost (λ p. (index p).0) ps b.0
    south : IsFirst AtMost (λ p. (index p).1) ps b.1
    east : IsFirst AtLeast (λ p. (index p).0) ps b.2
    north : IsFirst AtLeast (λ p. (index p).1) ps b.3

  abbrev IsBox : List Pos → Option Corners → Type 0
  IsBox ps None = (p : Pos) → ¬ Has p ps
  IsBox ps (Some b) = IsAround ps b

  around_one : (p : Pos) → IsAround (p ∷ []) (widened_at None (index p))
  around_one p = record {
    west = first_one lesser (λ q. (index q).0) p;
    south = first_one lesser (λ q. (index q).1) p;
    east = first_one greater (λ q. (index q).0) p;
    north = first_one greater (λ q. (index q).1) p;
  }

  around_more : (ps : List Pos) (b : Corners) (p : Pos) → IsAround ps b → IsAround (ps ++ (p ∷ [])) (widened_at (Some b) (index p))
  around_more ps b p h = record {
    west = first_more lesser (λ q. (index q).0) ps b.0 p h.west;
    south = first_more lesser (λ q. (index q).1) ps b.1 p h.south;
    east = first_more greater (λ q. (index q).0) ps b.2 p h.east;
    north = first_more greater (λ q. (index q).1) ps b.3 p h.north;
  }

  none_left : (ps : List Pos) → ((p : Pos) → ¬ Has p ps) → ps ≡ []
  none_left [] h = refl
  none_left (p ∷ ps) h = absurd (h p (inl refl))

  box_more : (ps : List Pos) (b : Option Corners) (p : Pos) → IsBox ps b → IsBox (ps ++ (p ∷ [])) (Some (widened_at b (index p)))
  box_more ps None p h = subst (λ w. IsAround (w ++ (p ∷ [])) (widened_at None (index p))) (sym (none_left ps h)) (around_one p)
  box_more ps (Some b) p h = around_more ps b p h

  box_is : (done ps : List Pos) (b : Option Corners) → IsBox done b → IsBox (done ++ ps) (box_by index b ps)
  box_is done [] b h = subst (λ w. IsBox w b) (sym (append_nil done)) h
  box_is done (p ∷ ps) b h =
      subst (λ w. IsBox w (box_by index (Some (widened_at b (index p))) ps)) (append_assoc done (p ∷ []) ps)
      (box_is (done ++ (p ∷ [])) ps (Some (widened_at b (index p))) (box_more done b p h))

  one_box : (ps qs : List Pos) (b c : Option Corners) → AllIn ps qs → AllIn qs ps → IsBox ps b → IsBox qs c → b ≡ c
  one_box ps qs None None to from h k = refl
  one_box ps qs None (Some c) to from h k = absurd (h k.west.there.0 (from k.west.there.0 k.west.there.1))
  one_box ps qs (Some b) None to from h k = absurd (k h.west.there.0 (to h.west.there.0 h.west.there.1))
  one_box ps qs (Some b) (Some c) to from h k =
      let w : b.0 ≡ c.0 = first_same lesser (λ q. (index q).0) ps qs b.0 c.0 to from h.west k.west in
      let s : b.1 ≡ c.1 = first_same lesser (λ q. (index q).1) ps qs b.1 c.1 to from h.south k.south in
      let e : b.2 ≡ c.2 = first_same greater (λ q. (index q).0) ps qs b.2 c.2 to from h.east k.east in
      let n : b.3 ≡ c.3 = first_same greater (λ q. (index q).1) ps qs b.3 c.3 to from h.north k.north in
      λ i. Some (w i, s i, e i, n i)

-- the same positions, the same box
pub box_same : (g : Transform) (ps qs : List Pos) → ((p : Pos) → Has p ps → Has p qs) → ((p : Pos) → Has p qs → Has p ps) → box_of g ps ≡ box_of g qs
box_same g ps qs to from =
    one_box (absolute_place g) ps qs (box_of g ps) (box_of g qs) to from
    (box_is (absolute_place g) [] ps None (λ p h. h))
    (box_is (absolute_place g) [] qs None (λ p h. h))

-- the box of grid numbers is one around the positions
numbers_around : (ps : List Pos) (b : Corners) → box_by numbers_of None ps ≡ Some b → IsAround numbers_of ps b
numbers_around ps b e = subst (IsBox numbers_of ps) e (box_is numbers_of [] ps None (λ p h. h))

-- the corners of a box of grid numbers are grid numbers
pub are_grid_numbers : (ps : List Pos) (b : Corners) → box_by numbers_of None ps ≡ Some b → AreGridNumbers b
are_grid_numbers ps b e =
    let h : IsAround numbers_of ps b = numbers_around ps b e in
    record {
      west = subst IsGridNumber (sym h.west.there.2) h.west.there.0.across;
      south = subst IsGridNumber (sym h.south.there.2) h.south.there.0.along;
      east = subst IsGridNumber (sym h.east.there.2) h.east.there.0.across;
      north = subst IsGridNumber (sym h.north.there.2) h.north.there.0.along;
    }

same_order : (s : Scaling) → IsScaling s → (a b : ℤ) → a ≤ℤ b → absolute s a ≤ℤ absolute s b
same_order s h a b k = sum_order (a *ℤ s.scale) (b *ℤ s.scale) s.translate (times_order a b s.scale (not_negative s.scale h.scale.low) k)
  where
    sum_order : (p q t : ℤ) → p ≤ℤ q → (p +ℤ t) ≤ℤ (q +ℤ t)
    sum_order p q t h = omega (arith, ints)

    not_negative : (n : ℤ) → pos 1 ≤ℤ n → pos 0 ≤ℤ n
    not_negative n h = omega (arith, ints)

first_absolute : {R : ℤ → ℤ → Type 0} (f : Pos → ℤ) (s : Scaling) → ((a b : ℤ) → R a b → R (absolute s a) (absolute s b)) → (ps : List Pos) (a : ℤ) →
    IsFirst R f ps a → IsFirst R (λ p. absolute s (f p)) ps (absolute s a)
first_absolute f s keeps ps a h = record {
  all = λ p k. keeps a (f p) (h.all p k);
  there = (h.there.0, h.there.1, ap (absolute s) h.there.2);
}

-- a box of grid numbers, in absolute numbers, is the box in absolute numbers
pub box_of_numbers : (g : Transform) → IsTransform g → (ps : List Pos) (b : Corners) → box_by numbers_of None ps ≡ Some b → Some (absolute_corners g b) ≡ box_of g ps
box_of_numbers g t ps b e =
    let h : IsAround numbers_of ps b = numbers_around ps b e in
    one_box (absolute_place g) ps ps (Some (absolute_corners g b)) (box_of g ps) (λ p k. k) (λ p k. k)
    (record {
      west = first_absolute x_of g.x (same_order g.x t.x) ps b.0 h.west;
      south = first_absolute y_of g.y (same_order g.y t.y) ps b.1 h.south;
      east = first_absolute x_of g.x (λ a b. same_order g.x t.x b a) ps b.2 h.east;
      north = first_absolute y_of g.y (λ a b. same_order g.y t.y b a) ps b.3 h.north;
    })
    (box_is (absolute_place g) [] ps None (λ p k. k))

-- where no position is, there is no box
pub box_of_none : (g : Transform) (ps : List Pos) → box_by numbers_of None ps ≡ None → None ≡ box_of g ps
box_of_none g ps e =
    ap (box_of g) (sym (none_left numbers_of ps (subst (IsBox numbers_of ps) e (box_is numbers_of [] ps None (λ p h. h)))))
