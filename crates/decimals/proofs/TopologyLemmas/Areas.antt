-- Areas along lists of positions, and along those that arcs stitch to.
use Rattle.std.proofs.Common.{◌≡◌, ℕ, zero, suc, ◌+◌, ◌<◌, length, drop, ℤ, pos, negsuc, ◌+ℤ◌, neg_ℤ, Bool, true, false, not, cond, List, [], ◌∷◌, ◌++◌, map, reverse, get_or, Option, Some, None, refl, sym, ap, ◌∙◌, arith, inl, inr}
use Rattle.std.proofs.lemmas.Bool.{cases_Bool}
use Rattle.std.proofs.lemmas.Int.{ints}
use Rattle.std.proofs.lemmas.List.{reverse-append}
use Rattle.std.proofs.lemmas.Option.{get_or_from_slice_get}
use Rattle.std.proofs.Math.ListN.{get_or-map}
use Rattle.std.specs.List.{slice_get}
use Rattle.std.specs.Option.{option_map}
use Rattle.grid.specs.declared.pos.Pos.{Pos}
use Rattle.theory.specs.ArcNumbers.{ArcRef, StitchFrom, along, backwards, flipped}
use Rattle.theory.specs.Lists.{last_of}
use Rattle.decimals.specs.Topology.Laws.{AreasAddUp, RewoundRingsTurnRight}
use Rattle.decimals.specs.Topology.Turning.{area_along, area_from, area_of, cross, ring_area, turned_to, turns_wrong}

-- read backwards

ring_append : (areas : List ℤ) (a b : List ArcRef) → ring_area areas (a ++ b) ≡ ring_area areas a +ℤ ring_area areas b
ring_append areas [] b = omega (arith, ints)
ring_append areas (x ∷ a) b = rw (ring_append areas a b) (omega (arith, ints))

flipped_area : (areas : List ℤ) (a : ArcRef) → area_of areas (flipped a) ≡ neg_ℤ (area_of areas a)
flipped_area areas a = signs a.reversed (get_or areas a.arc (pos 0))
  where
    signs : (b : Bool) (z : ℤ) → cond (not b) (neg_ℤ z) z ≡ neg_ℤ (cond b (neg_ℤ z) z)
    signs false z = refl
    signs true z = omega (arith, ints)

back_area : (areas : List ℤ) (ring : List ArcRef) → ring_area areas (backwards ring) ≡ neg_ℤ (ring_area areas ring)
back_area areas [] = refl
back_area areas (a ∷ ring) =
    ap (ring_area areas) (reverse-append (flipped a ∷ []) (map flipped ring))
    ∙ (ring_append areas (backwards ring) (flipped a ∷ []) ∙ rw (back_area areas ring, flipped_area areas a) (omega (arith, ints)))

turned_right : (counterclockwise : Bool) (a : ℤ) → turns_wrong counterclockwise a ≡ true → turns_wrong counterclockwise (neg_ℤ a) ≡ false
turned_right b (pos zero) e = refl
turned_right true (pos (suc n)) e = absurd (cc)
turned_right false (pos (suc n)) e = refl
turned_right true (negsuc n) e = refl
turned_right false (negsuc n) e = absurd (cc)

turned_to_right : (areas : List ℤ) (counterclockwise : Bool) (ring : List ArcRef) → turns_wrong counterclockwise (ring_area areas (turned_to (Some counterclockwise) areas ring)) ≡ false
turned_to_right areas b ring =
    elim (cases_Bool (turns_wrong b (ring_area areas ring))) [
      | inl t ↦ rw (t, back_area areas ring) (turned_right b (ring_area areas ring) t)
      | inr f ↦ rw (f, f) refl
    ]

pub rewound_rings_turn_right : RewoundRingsTurnRight
rewound_rings_turn_right areas r outer counterclockwise ring e =
    ap (λ w. turns_wrong counterclockwise (ring_area areas (turned_to w areas ring))) e ∙ turned_to_right areas counterclockwise ring

-- along positions

append_area : (x : Pos) (q s : List Pos) → area_from x (q ++ s) ≡ area_from x q +ℤ area_from (last_of x q) s
append_area x [] s = omega (arith, ints)
append_area x (y ∷ q) s = rw (append_area y q s) (omega (arith, ints))

one_more : (a : Pos) (l : List Pos) (y x : Pos) → area_from a ((l ++ (y ∷ [])) ++ (x ∷ [])) ≡ area_from a (l ++ (y ∷ [])) +ℤ cross y x
one_more a [] y x = omega (arith, ints)
one_more a (b ∷ l) y x = rw (one_more b l y x) (omega (arith, ints))

one_more_along : (l : List Pos) (y x : Pos) → area_along ((l ++ (y ∷ [])) ++ (x ∷ [])) ≡ area_along (l ++ (y ∷ [])) +ℤ cross y x
one_more_along [] y x = omega (arith, ints)
one_more_along (a ∷ l) y x = one_more a l y x

turned_cross : (x y : Pos) → cross y x ≡ neg_ℤ (cross x y)
turned_cross x y = omega (arith, ints)

reversed_area : (c : List Pos) → area_along (reverse c) ≡ neg_ℤ (area_along c)
reversed_area [] = refl
reversed_area (x ∷ []) = refl
reversed_area (x ∷ y ∷ r) =
    let last : reverse (y ∷ r) ≡ reverse r ++ (y ∷ []) = reverse-append (y ∷ []) r in
    let both : reverse (x ∷ y ∷ r) ≡ (reverse r ++ (y ∷ [])) ++ (x ∷ []) = reverse-append (x ∷ []) (y ∷ r) ∙ ap (λ l. l ++ (x ∷ [])) last in
    let before : area_along (reverse r ++ (y ∷ [])) ≡ neg_ℤ (area_along (y ∷ r)) = ap area_along (sym last) ∙ reversed_area (y ∷ r) in
    ap area_along both ∙ (one_more_along (reverse r) y x ∙ rw (before, turned_cross x y) (omega (arith, ints)))

-- along the positions that arcs stitch to

arc_area : (arcs : List (List Pos)) (a : ArcRef) (x : Pos) (q : List Pos) → along arcs a ≡ Some (x ∷ q) → area_of (map area_along arcs) a ≡ area_from x q
arc_area arcs a x q h = at (slice_get arcs a.arc) refl h
  where
    signed : (b : Bool) (c : List Pos) → cond b (reverse c) c ≡ x ∷ q → cond b (neg_ℤ (area_along c)) (area_along c) ≡ area_from x q
    signed false c e = ap area_along e
    signed true c e = sym (reversed_area c) ∙ ap area_along e

    at : (o : Option (List Pos)) → slice_get arcs a.arc ≡ o → option_map (λ c. cond a.reversed (reverse c) c) o ≡ Some (x ∷ q) → area_of (map area_along arcs) a ≡ area_from x q
    at None e none = absurd (cc)
    at (Some c) e some =
        let is : cond a.reversed (reverse c) c ≡ x ∷ q = cc in
        let area : get_or (map area_along arcs) a.arc (pos 0) ≡ area_along c = get_or-map area_along arcs a.arc [] ∙ ap area_along (get_or_from_slice_get arcs a.arc c [] e) in
        ap (λ z. cond a.reversed (neg_ℤ z) z) area ∙ signed a.reversed c is

stitched_area : (arcs : List (List Pos)) (x : Pos) (ring : List ArcRef) (r : List Pos) → StitchFrom arcs x ring r → ring_area (map area_along arcs) ring ≡ area_from x r
stitched_area arcs x [] r e = rw e refl
stitched_area arcs x (a ∷ ring) r h =
    let q = h.0 in
    let s = h.1 in
    rw (h.3, append_area x q s) (λ i. arc_area arcs a x q h.2 i +ℤ stitched_area arcs (last_of x q) ring s h.4 i)

pub areas_add_up : AreasAddUp
areas_add_up arcs [] l e = rw e refl
areas_add_up arcs (a ∷ ring) [] h = absurd h
areas_add_up arcs (a ∷ ring) (x ∷ r) h = stitched_area arcs x (a ∷ ring) r h

-- one position more
pub area_step : (area sum c : ℤ) (before item first : Pos) (others : List Pos) (i : ℕ) → i < length others → item ≡ get_or others i item → sum ≡ area +ℤ c → c ≡ cross before item
    → area +ℤ area_from before (drop i others) ≡ area_from first others → sum +ℤ area_from item (drop (i + 1) others) ≡ area_from first others
area_step area sum c before item first others i within is added crossed so_far =
    let front : drop i others ≡ item ∷ drop (i + 1) others = drop_step others i item within is in
    let whole : area +ℤ (cross before item +ℤ area_from item (drop (i + 1) others)) ≡ area_from first others = ap (λ l. area +ℤ area_from before l) (sym front) ∙ so_far in
    rw (added, crossed) (omega (arith, ints)) ∙ whole
  where
    drop_step : (others : List Pos) (i : ℕ) (item : Pos) → i < length others → item ≡ get_or others i item → drop i others ≡ item ∷ drop (i + 1) others
    drop_step [] i item within is = absurd (omega arith)
    drop_step (p ∷ ps) zero item within is = ap (λ q. q ∷ ps) (sym is)
    drop_step (p ∷ ps) (suc i) item within is = let e : suc i + 1 ≡ suc (i + 1) = omega arith in rw e (drop_step ps i item (omega arith) is)
