-- Rings that were made of closed lists, turned again.
use Rattle.std.proofs.Common.{◌≡◌, ◌≤◌, Bool, true, false, cond, not, List, [], ◌∷◌, ◌++◌, length, reverse, refl, sym, ap, ◌∙◌, subst, arith, append_assoc, ℤ, pos, ◌+ℤ◌, ◌-ℤ◌, ◌*ℤ◌, FitsSigned, int_lt, Option, Some, None, is_none}
use Rattle.std.specs.Cmp.Lexicographic.{lists_total, slice_cmp}
use Rattle.std.specs.Int.{int_wrap}
use Rattle.std.specs.Ordering.{is_lt}
use Rattle.std.proofs.lemmas.Int.{ints}
use Rattle.std.proofs.lemmas.List.{reverse-reverse}
use Rattle.grid.specs.declared.pos.Pos.{Pos}
use Rattle.theory.specs.Geometry.{AtMost}
use Rattle.theory.specs.LinesAndRings.{IsRing, IsRotation, closed}
use Rattle.theory.specs.TopologyFunction.{least_list, rotations, same_vertex}
use Rattle.theory.proofs.Lists.{append_nil}
use Rattle.theory.proofs.Reversing.{reverse-join, reverse-snoc}
use Rattle.theory.proofs.Rotations.{rotation_back, rotation_length, rotation_ring, rotation_trans}
use Rattle.theory.proofs.Turning.{least_list_found, rotation_listed, rotation_of}
use Rattle.lines.specs.Positions.{position_same, position_total}
use Rattle.lines.specs.Reading.{collapsed, opened, ring_fault, ring_of}
use Rattle.lines.specs.Turned.{list_cmp, position_cmp}
use Rattle.lines.specs.declared.shape_fault.ShapeFault.{ShapeFault}
use Rattle.lines.proofs.ReadsItself.{closed_reads, opened_closed, ring_without_fault}
use Rattle.lines.proofs.Trails.{Closes, ring_accepted}
use Rattle.fixing.specs.Laws.{HasArea}
use Rattle.fixing.specs.Measures.{area_from, cross, rewound, turned_to, turns_left, turns_right, twice_area}
use Rattle.fixing.specs.Polygons.{ring_made}
use Rattle.fixing.specs.declared.rules.Rewind.{Rewind}
use Rattle.fixing.specs.declared.rules.Rewind.TheVariants.{Keep, Rfc7946, D3}
use Rattle.fixing.proofs.Reversed.{after, back, back_collapsed, back_ring, closed_back, collapsed_after, reversed_sound, same_is}
use Rattle.fixing.proofs.TurnLaws.{reversed_area, rewound_stays}
use mir.Syntax.{w128}

-- ---- the least rotation of a ring

record IsLeastOf (r v : List Pos) : Type 0 where
  rotated : IsRotation r v
  reads : (m : List Pos) → IsRotation r m → ring_of position_cmp (closed m) ≡ v

least_of : (r : List Pos) → IsRing r → IsLeastOf r (least_list (slice_cmp position_cmp) (rotations r))
least_of [] k = absurd (let n : 3 ≤ 0 = k.long in omega arith)
least_of (x ∷ l) k = record {
  rotated = rotated;
  reads = λ m q.
      closed_reads position_cmp position_total position_same v m (rotation_ring (x ∷ l) v rotated k) (λ p h. most p (rotation_trans (x ∷ l) v p rotated h))
      (rotation_trans v (x ∷ l) m (rotation_back (x ∷ l) v rotated) q);
}
  where
    v : List Pos
    v = least_list (slice_cmp position_cmp) (rotations (x ∷ l))

    most : (p : List Pos) → IsRotation (x ∷ l) p → AtMost (slice_cmp position_cmp) (least_list (slice_cmp position_cmp) (rotations (x ∷ l))) p
    most [] h = absurd (let n : length (x ∷ l) ≡ 0 = rotation_length (x ∷ l) [] h in omega arith)
    most (y ∷ q) h = (least_list_found (slice_cmp position_cmp) (lists_total position_total) (rotations (x ∷ l)) (y ∷ q) (rotation_listed (x ∷ l) y q h)).1

    rotated : IsRotation (x ∷ l) (least_list (slice_cmp position_cmp) (rotations (x ∷ l)))
    rotated =
        let best = least_list_found (slice_cmp position_cmp) (lists_total position_total) (rotations (x ∷ l)) (x ∷ l) (rotation_listed (x ∷ l) x l ([], x ∷ l, refl, sym (append_nil (x ∷ l)))) in
        let at = rotation_of [] (x ∷ l) (least_list (slice_cmp position_cmp) (rotations (x ∷ l))) best.0 in
        (at.1, at.0 ∷ at.2, at.3, at.4)

-- the ring of a list that reads as a closed one
ring_is : (w r : List Pos) → collapsed position_cmp w ≡ closed r → ring_of position_cmp w ≡ least_list (slice_cmp position_cmp) (rotations r)
unfolding ring_of
ring_is w r e = ap (λ c. least_list (slice_cmp position_cmp) (rotations (opened c))) e ∙ ap (λ c. least_list (slice_cmp position_cmp) (rotations c)) (opened_closed r)

-- ---- rotations the other way round

reverse_parts : (s : List Pos) (y : Pos) (t : List Pos) → reverse (s ++ (y ∷ t)) ≡ reverse t ++ (y ∷ reverse s)
reverse_parts s y t = reverse-join s (y ∷ t) ∙ ap (λ w. w ++ reverse s) (reverse-snoc y t) ∙ append_assoc (reverse t) (y ∷ []) (reverse s)

back_parts : (s t : List Pos) → IsRotation (back (s ++ t)) (back (t ++ s))
back_parts [] t = ([], back t, refl, ap back (append_nil t) ∙ sym (append_nil (back t)))
back_parts (x ∷ s) [] = ([], back (x ∷ s), ap back (append_nil (x ∷ s)), sym (append_nil (back (x ∷ s))))
back_parts (x ∷ s) (y ∷ t) = (x ∷ reverse t, y ∷ reverse s, ap (λ w. x ∷ w) (reverse_parts s y t), ap (λ w. y ∷ w) (reverse_parts t x s))

back_rotated : (r v : List Pos) → IsRotation r v → IsRotation (back r) (back v)
back_rotated r v (s, t, e, f) = subst (λ w. IsRotation (back w) (back v)) (sym e) (subst (λ w. IsRotation (back (s ++ t)) (back w)) (sym f) (back_parts s t))

-- ---- areas

sum_of_three : (a b c : ℤ) → a +ℤ (b +ℤ c) ≡ (a +ℤ b) +ℤ c
sum_of_three a b c = omega (arith, ints)

and_none : (a b : ℤ) → a +ℤ b ≡ (a +ℤ pos 0) +ℤ b
and_none a b = omega (arith, ints)

turned_sum : (a b : ℤ) → a +ℤ b ≡ b +ℤ a
turned_sum a b = omega (arith, ints)

from_itself : (m a : ℤ) → (m -ℤ m) +ℤ a ≡ a
from_itself m a = omega (arith, ints)

area_join : (x : Pos) (s : List Pos) (y : Pos) (q : List Pos) → area_from x (s ++ (y ∷ q)) ≡ area_from x (s ++ (y ∷ [])) +ℤ area_from y q
area_join x [] y q = and_none (cross x y) (area_from y q)
area_join x (z ∷ s) y q = ap (λ m. cross x z +ℤ m) (area_join z s y q) ∙ sum_of_three (cross x z) (area_from z (s ++ (y ∷ []))) (area_from y q)

area_parts : (s t : List Pos) → twice_area (closed (s ++ t)) ≡ twice_area (closed (t ++ s))
area_parts [] t = ap (λ w. twice_area (closed w)) (sym (append_nil t))
area_parts (x ∷ s) [] = ap (λ w. twice_area (closed w)) (append_nil (x ∷ s))
area_parts (x ∷ s) (y ∷ t) =
    part x s y t ∙ turned_sum (area_from x (s ++ (y ∷ []))) (area_from y (t ++ (x ∷ []))) ∙ sym (part y t x s)
  where
    part : (x : Pos) (s : List Pos) (y : Pos) (t : List Pos) → area_from x ((s ++ (y ∷ t)) ++ (x ∷ [])) ≡ area_from x (s ++ (y ∷ [])) +ℤ area_from y (t ++ (x ∷ []))
    part x s y t = ap (area_from x) (append_assoc s (y ∷ t) (x ∷ [])) ∙ area_join x s y (t ++ (x ∷ []))

area_rotated : (r v : List Pos) → IsRotation r v → twice_area (closed r) ≡ twice_area (closed v)
area_rotated r v (s, t, e, f) = ap (λ w. twice_area (closed w)) e ∙ area_parts s t ∙ ap (λ w. twice_area (closed w)) (sym f)

area_after : (x : Pos) (l : List Pos) → area_from x (after x l) ≡ area_from x l
area_after x [] = refl
area_after x (y ∷ l) = go (same_vertex position_cmp y x) refl (area_after x l) (area_after y l)
  where
    go : (b : Bool) → same_vertex position_cmp y x ≡ b → area_from x (after x l) ≡ area_from x l → area_from y (after y l) ≡ area_from y l →
        area_from x (cond b (after x l) (y ∷ after y l)) ≡ cross x y +ℤ area_from y l
    go true e h k = h ∙ sym (from_itself (x.x *ℤ x.y) (area_from x l)) ∙ ap (λ z. cross x z +ℤ area_from z l) (sym (same_is y x e))
    go false e h k = ap (λ m. cross x y +ℤ m) k

area_collapsed : (l : List Pos) → twice_area (collapsed position_cmp l) ≡ twice_area l
area_collapsed [] = refl
area_collapsed (x ∷ l) = ap twice_area (collapsed_after x l) ∙ area_after x l

-- ---- the closed list of a ring that was made

record IsMadeAgain (w v : List Pos) : Type 0 where
  area : twice_area v ≡ twice_area w
  ring : ring_of position_cmp v ≡ ring_of position_cmp w
  reversed : ring_of position_cmp (reverse v) ≡ ring_of position_cmp (reverse w)
  sound : ring_fault position_cmp v ≡ None

made_again : (w : List Pos) → ring_fault position_cmp w ≡ None → IsMadeAgain w (closed (ring_of position_cmp w))
made_again w e = go (opened (collapsed position_cmp w)) k.is_ring k.is
  where
    k : Closes position_cmp position_total position_same (collapsed position_cmp w)
    k = ring_accepted position_cmp position_total position_same w e

    go : (r : List Pos) → IsRing r → collapsed position_cmp w ≡ closed r → IsMadeAgain w (closed (ring_of position_cmp w))
    go r valid is =
        let q = ring_is w r is in
        let least = least_of r valid in
        let turned = least_of (back r) (back_ring r valid) in
        subst (λ v. IsMadeAgain w (closed v)) (sym q)
        (record {
          area = sym (area_rotated r (least_list (slice_cmp position_cmp) (rotations r)) least.rotated) ∙ ap twice_area (sym is) ∙ area_collapsed w;
          ring = least.reads (least_list (slice_cmp position_cmp) (rotations r)) least.rotated ∙ sym q;
          reversed = ap (ring_of position_cmp) (closed_back (least_list (slice_cmp position_cmp) (rotations r)))
              ∙ turned.reads (back (least_list (slice_cmp position_cmp) (rotations r))) (back_rotated r (least_list (slice_cmp position_cmp) (rotations r)) least.rotated)
              ∙ sym (ring_is (reverse w) (back r) (back_collapsed w r is));
          sound = ring_without_fault position_cmp position_total position_same (least_list (slice_cmp position_cmp) (rotations r))
              (rotation_ring r (least_list (slice_cmp position_cmp) (rotations r)) least.rotated valid);
        })

-- ---- turned again

-- the ring that is chosen, by twice the area and by the rings of the two directions
abbrev chosen : Bool → ℤ → List Pos → List Pos → List Pos
chosen left a f b =
    cond (int_lt (pos 0) (int_wrap w128 a)) (cond left f b) (cond (int_lt (int_wrap w128 a) (pos 0)) (cond left b f) (cond (is_lt (list_cmp b f)) b f))

is_chosen : (left : Bool) (l : List Pos) → ring_of position_cmp (turned_to left l) ≡ chosen left (twice_area l) (ring_of position_cmp l) (ring_of position_cmp (reverse l))
is_chosen left l = go left (turns_left l) (turns_right l) (is_lt (list_cmp (ring_of position_cmp (reverse l)) (ring_of position_cmp l)))
  where
    go : (left p q r : Bool) → ring_of position_cmp (cond p (cond left l (reverse l)) (cond q (cond left (reverse l) l) (cond r (reverse l) l)))
        ≡ cond p (cond left (ring_of position_cmp l) (ring_of position_cmp (reverse l)))
        (cond q (cond left (ring_of position_cmp (reverse l)) (ring_of position_cmp l)) (cond r (ring_of position_cmp (reverse l)) (ring_of position_cmp l)))
    go true true q r = refl
    go false true q r = refl
    go true false true r = refl
    go false false true r = refl
    go left false false true = refl
    go left false false false = refl

same_turn : (left : Bool) (w v : List Pos) → IsMadeAgain w v → ring_of position_cmp (turned_to left v) ≡ ring_of position_cmp (turned_to left w)
same_turn left w v k =
    is_chosen left v ∙ ap (λ a. chosen left a (ring_of position_cmp v) (ring_of position_cmp (reverse v))) k.area
    ∙ ap (λ f. chosen left (twice_area w) f (ring_of position_cmp (reverse v))) k.ring ∙ ap (chosen left (twice_area w) (ring_of position_cmp w)) k.reversed
    ∙ sym (is_chosen left w)

same_rewound : (rewind : Rewind) (is_outer : Bool) (w v : List Pos) → IsMadeAgain w v →
    ring_of position_cmp (rewound rewind is_outer v) ≡ ring_of position_cmp (rewound rewind is_outer w)
same_rewound Keep is_outer w v k = k.ring
same_rewound Rfc7946 is_outer w v k = same_turn is_outer w v k
same_rewound D3 is_outer w v k = same_turn (not is_outer) w v k

-- a list that is turned is without a fault where it was before
turned_sound : (left : Bool) (l : List Pos) → ring_fault position_cmp l ≡ None → ring_fault position_cmp (turned_to left l) ≡ None
turned_sound left l e = go left (turns_left l) (turns_right l) (is_lt (list_cmp (ring_of position_cmp (reverse l)) (ring_of position_cmp l)))
  where
    go : (left p q r : Bool) → ring_fault position_cmp (cond p (cond left l (reverse l)) (cond q (cond left (reverse l) l) (cond r (reverse l) l))) ≡ None
    go true true q r = e
    go false true q r = reversed_sound l e
    go true false true r = reversed_sound l e
    go false false true r = e
    go left false false true = reversed_sound l e
    go left false false false = e

rewound_sound : (rewind : Rewind) (is_outer : Bool) (l : List Pos) → ring_fault position_cmp l ≡ None → ring_fault position_cmp (rewound rewind is_outer l) ≡ None
rewound_sound Keep is_outer l e = e
rewound_sound Rfc7946 is_outer l e = turned_sound is_outer l e
rewound_sound D3 is_outer l e = turned_sound (not is_outer) l e

-- where the area of a turned list doesn't wrap, that of the list doesn't
turned_area : (left : Bool) (l : List Pos) → HasArea (turned_to left l) → HasArea l
turned_area left l = go left (turns_left l) (turns_right l) (is_lt (list_cmp (ring_of position_cmp (reverse l)) (ring_of position_cmp l)))
  where
    unreversed : HasArea (reverse l) → HasArea l
    unreversed h = subst HasArea (reverse-reverse l) (reversed_area (reverse l) h)

    go : (left p q r : Bool) → HasArea (cond p (cond left l (reverse l)) (cond q (cond left (reverse l) l) (cond r (reverse l) l))) → HasArea l
    go true true q r = λ h. h
    go false true q r = unreversed
    go true false true r = unreversed
    go false false true r = λ h. h
    go left false false true = unreversed
    go left false false false = λ h. h

rewound_area : (rewind : Rewind) (is_outer : Bool) (l : List Pos) → HasArea (rewound rewind is_outer l) → HasArea l
rewound_area Keep is_outer l h = h
rewound_area Rfc7946 is_outer l h = turned_area is_outer l h
rewound_area D3 is_outer l h = turned_area (not is_outer) l h

-- the ring that is made of a list is made of its own closed list too
pub ring_stays : (rewind : Rewind) (is_outer : Bool) (l v : List Pos) → HasArea (closed v) → ring_made rewind is_outer l ≡ Some v → ring_made rewind is_outer (closed v) ≡ Some v
ring_stays rewind is_outer l v fits e = go (ring_fault position_cmp l) refl e
  where
    again : ring_fault position_cmp l ≡ None → HasArea (closed (ring_of position_cmp (rewound rewind is_outer l))) →
        ring_made rewind is_outer (closed (ring_of position_cmp (rewound rewind is_outer l))) ≡ Some (ring_of position_cmp (rewound rewind is_outer l))
    again p h =
        let k = made_again (rewound rewind is_outer l) (rewound_sound rewind is_outer l p) in
        let wound : HasArea (rewound rewind is_outer l) = record { ahead = subst (FitsSigned w128) k.area h.ahead; back = subst (λ a. FitsSigned w128 (pos 0 -ℤ a)) k.area h.back } in
        ap (λ f. cond (is_none f) (Some (ring_of position_cmp (rewound rewind is_outer (closed (ring_of position_cmp (rewound rewind is_outer l)))))) None) k.sound
        ∙ ap Some (same_rewound rewind is_outer (rewound rewind is_outer l) (closed (ring_of position_cmp (rewound rewind is_outer l))) k
        ∙ ap (ring_of position_cmp) (rewound_stays rewind is_outer l (rewound_area rewind is_outer l wound)))

    go : (f : Option ShapeFault) → ring_fault position_cmp l ≡ f → cond (is_none f) (Some (ring_of position_cmp (rewound rewind is_outer l))) None ≡ Some v →
        ring_made rewind is_outer (closed v) ≡ Some v
    go None p h =
        let same : ring_of position_cmp (rewound rewind is_outer l) ≡ v = cc in
        subst (λ u. ring_made rewind is_outer (closed u) ≡ Some u) same (again p (subst (λ u. HasArea (closed u)) (sym same) fits))
    go (Some f) p h = absurd cc
