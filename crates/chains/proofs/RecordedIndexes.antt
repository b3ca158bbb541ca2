-- What is noted by references to places that stand between two others.
use Rattle.std.specs.Borrow.{Bor}
use Rattle.std.proofs.Common.{◌≡◌, false, ℕ, zero, suc, ◌-◌, ◌≤◌, ◌↔◌, List, [], ◌∷◌, ◌++◌, inl, inr, length, drop, take, map, get_or, slice_get, Some, refl, sym, ap, ◌∙◌, subst, arith, append_assoc, append-nil}
use Rattle.std.proofs.lemmas.List.{take_all}
use Rattle.theory.specs.Lists.{Has, gathered}
use Rattle.theory.proofs.Lists.{Has-append, Has-append_left, Has-append_right}
use Rattle.grid.specs.declared.pos.Pos.{Pos}
use Rattle.lines.specs.Pairs.{pair_of, position_eq}
use Rattle.lines.specs.declared.pair.PositionPair.{PositionPair}
use Rattle.lines.proofs.Positions.{true_position, true_false}
use Rattle.lines.proofs.Pairs.{pair_at, pair_flip, pair_same}
use Rattle.chains.specs.Noted.{recorded_in, visits_at}
use Rattle.chains.specs.Visits.{HaveSame, inner_of, visit_of}
use Rattle.chains.specs.declared.visits.Visit.{Visit}
use Rattle.chains.proofs.Layers.{gathered-append}
use Rattle.chains.proofs.Same.{same_equal, same_trans}

-- the visits at a place of the list are among those of all
occurs_in : (ws : List (Bor (List Pos))) (i : ℕ) (vs : List Visit) → slice_get (map visits_at ws) i ≡ Some vs → (v : Visit) → Has v vs → Has v (gathered visits_at ws)
occurs_in [] i vs e v h = absurd cc
occurs_in (w ∷ ws) zero vs e v h =
    let q : inner_of w.now ≡ vs = cc in
    Has-append_left v (inner_of w.now) (gathered visits_at ws) (subst (Has v) (sym q) h)
occurs_in (w ∷ ws) (suc i) vs e v h = Has-append_right v (inner_of w.now) (gathered visits_at ws) (occurs_in ws i vs e v h)

-- visits that are noted already
same_within : {A : Type 0} (a b : List A) → ((v : A) → Has v b → Has v a) → HaveSame a (a ++ b)
same_within a b f = record {
  members = λ v. (
    Has-append_left v a b,
    λ h. elim (Has-append v a b h) [
      | inl k ↦ k
      | inr k ↦ f v k
    ],
  );
}

pub recorded_before : (ws : List (Bor (List Pos))) (seams : List Visit) (i : ℕ) (vs : List Visit) → slice_get (map visits_at ws) i ≡ Some vs →
    HaveSame (recorded_in ws seams) (recorded_in ws seams ++ vs)
recorded_before ws seams i vs e =
    same_within (recorded_in ws seams) vs (λ v h. Has-append_left v (gathered visits_at ws) seams (occurs_in ws i vs e v h))

-- what stands behind the last but one of three lists may stand behind the last
last_two : {A : Type 0} (a b c : List A) (w : A) → Has w ((a ++ b) ++ c) → Has w ((a ++ c) ++ b)
last_two a b c w h = elim (Has-append w (a ++ b) c h) [
  | inl k ↦ elim (Has-append w a b k) [
    | inl m ↦ Has-append_left w (a ++ c) b (Has-append_left w a c m)
    | inr m ↦ Has-append_right w (a ++ c) b m
  ]
  | inr k ↦ Has-append_left w (a ++ c) b (Has-append_right w a c k)
]

-- one more place
pub recorded_more : (ws new : List (Bor (List Pos))) (seams : List Visit) (w : Bor (List Pos)) → new ≡ ws ++ w ∷ [] → HaveSame (recorded_in new seams) (recorded_in ws seams ++ inner_of w.now)
recorded_more ws new seams w e =
    let here = gathered visits_at ws in
    let one = inner_of w.now in
    let all : gathered visits_at new ≡ here ++ one = ap (gathered visits_at) e ∙ gathered-append visits_at ws (w ∷ []) ∙ ap (λ l. here ++ l) (append-nil one) in
    same_trans (same_equal (ap (λ l. l ++ seams) all)) (record { members = λ v. (last_two here one seams v, last_two here seams one v) })

-- one more visit across the ends of a ring
pub seam_recorded : (ws : List (Bor (List Pos))) (seams new : List Visit) (v : Visit) → new ≡ seams ++ v ∷ [] → HaveSame (recorded_in ws new) (recorded_in ws seams ++ v ∷ [])
seam_recorded ws seams new v e = same_equal (ap (recorded_in ws) e ∙ sym (append_assoc (gathered visits_at ws) seams (v ∷ [])))

-- a list of three or more begins with a visit
pub inner_step : (l three : List Pos) → 3 ≤ length l → three ≡ take 3 l → inner_of l ≡ inner_of three ++ inner_of (take (length l - 1) (drop 1 l))
inner_step [] three n e = absurd (omega (arith, n))
inner_step (a ∷ []) three n e = absurd (omega (arith, n))
inner_step (a ∷ (b ∷ [])) three n e = absurd (omega (arith, n))
inner_step (a ∷ (b ∷ (c ∷ l))) three n e =
    let rest = b ∷ (c ∷ l) in
    let all : take (length (a ∷ rest) - 1) rest ≡ rest = take_all (length (a ∷ rest) - 1) rest (omega arith) in
    λ i. inner_of (sym e i) ++ inner_of (sym all i)

are_three : (l : List Pos) (x y z : Pos) → length l ≡ 3 → l ≡ get_or l 0 x ∷ (get_or l 1 y ∷ (get_or l 2 z ∷ []))
are_three [] x y z n = absurd cc
are_three (a ∷ []) x y z n = absurd cc
are_three (a ∷ (b ∷ [])) x y z n = absurd cc
are_three (a ∷ (b ∷ (c ∷ []))) x y z n = refl
are_three (a ∷ (b ∷ (c ∷ (d ∷ l)))) x y z n = absurd (omega (arith, n))

abbrev one_visit : Pos → PositionPair → List Visit
one_visit here sides = record { vertex = here; sides = sides } ∷ []

abbrev vertex_in : Pos → List Visit → Pos
vertex_in p [] = p
vertex_in p (v ∷ l) = v.vertex

abbrev sides_in : PositionPair → List Visit → PositionPair
sides_in q [] = q
sides_in q (v ∷ l) = v.sides

-- two places are one vertex with the same two neighbours, just where their visits are equal
pub same_visit : (l m : List Pos) (x y z u v w : Pos) → length l ≡ 3 → length m ≡ 3 →
    ((get_or l 1 y ≡ get_or m 1 v) × (pair_of (get_or l 0 x) (get_or l 2 z) ≡ pair_of (get_or m 0 u) (get_or m 2 w))) ↔ (inner_of l ≡ inner_of m)
same_visit l m x y z u v w n k = (
  λ h. one ∙ (λ i. one_visit (h.0 i) (h.1 i)) ∙ sym other,
  λ h. let q = sym one ∙ h ∙ other in (ap (vertex_in y) q, ap (sides_in (pair_of x z)) q),
)
  where
    one : inner_of l ≡ visit_of (get_or l 0 x) (get_or l 1 y) (get_or l 2 z) ∷ []
    one = ap inner_of (are_three l x y z n)

    other : inner_of m ≡ visit_of (get_or m 0 u) (get_or m 1 v) (get_or m 2 w) ∷ []
    other = ap inner_of (are_three m u v w k)

-- two positions in the other order
pub turned_two : (a b c d : Pos) → a ≡ d → b ≡ c → pair_of a b ≡ pair_of c d
turned_two a b c d e f = pair_flip a b ∙ pair_at b a c d f e

-- the second of two that are equal in either order, where the first is told
pub second_means : (a b c d : Pos) → a ≡ d → pair_of a b ≡ pair_of c d → b ≡ c
second_means a b c d e h = elim (pair_same a b c d h) [
  | inl s ↦ s.1 ∙ sym e ∙ s.0
  | inr s ↦ s.1
]

pub as_they_are : (a b c d : Pos) → position_eq a d ≡ false → pair_of a b ≡ pair_of c d → (a ≡ c) × (b ≡ d)
as_they_are a b c d n h = elim (pair_same a b c d h) [
  | inl s ↦ s
  | inr s ↦ absurd (true_false (position_eq a d) (true_position a d s.0) n)
]
