-- What is left of an arc, read backwards and parted.
use Rattle.std.proofs.Common.{◌≡◌, ℕ, suc, ◌+◌, ◌-◌, ◌<◌, ◌≤◌, arith, Bool, true, false, List, [], ◌∷◌, ◌++◌, length, take, drop, reverse, get_or, cond, ◌↔◌, sym, ap, ◌∙◌}
use Rattle.std.proofs.Math.Seq.{drop-append_seam, drop-cons, take-append_seam}
use Rattle.std.proofs.lemmas.List.{length-drop, length-reverse, reverse-append, take-append-drop, take_all}
use Rattle.grid.specs.declared.pos.Pos.{Pos}
use Rattle.arcs.specs.Table.{same_list}
use Rattle.arcs.proofs.Places.{list_refl, list_true}

tail_of : (x y : Pos) (l m : List Pos) → x ∷ l ≡ y ∷ m → l ≡ m
tail_of x y l m e = cc

-- ---- positions that are read backwards

turned_last : (left rest : List Pos) (last : Pos) → left ≡ rest ++ (last ∷ []) → reverse left ≡ last ∷ reverse rest
turned_last left rest last e = ap reverse e ∙ reverse-append rest (last ∷ [])

there : (ps : List Pos) (i : ℕ) (p : Pos) → i < length ps → p ≡ get_or ps i p → drop i ps ≡ p ∷ drop (i + 1) ps
there ps i p h e = let k : suc i ≡ i + 1 = omega arith in drop-cons ps i p h ∙ (λ j. sym e j ∷ drop (k j) ps)

pub turned_on : (asked : Type 0) (left rest others : List Pos) (i : ℕ) (p q : Pos) → i < length others → p ≡ get_or others i p → left ≡ rest ++ (q ∷ []) → q ≡ p →
    asked ↔ (reverse left ≡ drop i others) → asked ↔ (reverse rest ≡ drop (i + 1) others)
turned_on asked left rest others i p q h e f g on = (
  (λ a. tail_of q p (reverse rest) (drop (i + 1) others) (sym (turned_last left rest q f) ∙ on.0 a ∙ there others i p h e)),
  (λ r. on.1 (turned_last left rest q f ∙ (λ k. g k ∷ r k) ∙ sym (there others i p h e))),
)

-- ---- parts of an arc

module _ (ps : List Pos) (n : ℕ) (h : n ≤ length ps) where
  abbrev pub first : List Pos
  first = reverse (drop (length ps - n) ps)

  abbrev pub second : List Pos
  second = reverse (take (length ps - n) ps)

  parted : reverse ps ≡ first ++ second
  parted = ap reverse (sym (take-append-drop (length ps - n) ps)) ∙ reverse-append (take (length ps - n) ps) (drop (length ps - n) ps)

  first_long : n ≡ length first
  first_long =
      let m : length (drop (length ps - n) ps) ≡ length ps - (length ps - n) = length-drop (length ps - n) ps in
      let k : length first ≡ length (drop (length ps - n) ps) = length-reverse (drop (length ps - n) ps) in omega (arith, h, m, k)

  pub turned_behind : second ≡ drop n (reverse ps)
  turned_behind = sym (ap (drop n) parted ∙ ap (λ k. drop k (first ++ second)) first_long ∙ drop-append_seam first second)

pub part_behind : (b : Bool) (ps : List Pos) (n : ℕ) → b ≡ true → n ≤ length (cond b (reverse ps) ps) →
    reverse (take (length ps - n) ps) ≡ drop n (cond b (reverse ps) ps)
part_behind false ps n e h = absurd cc
part_behind true ps n e h = turned_behind ps n (omega (arith, h, length-reverse ps))

pub part_same : (b : Bool) (ps qs : List Pos) (r : Bool) → b ≡ false → r ≡ same_list ps qs → (r ≡ true) ↔ (cond b (reverse ps) ps ≡ qs)
part_same true ps qs r e f = absurd cc
part_same false ps qs r e f = ((λ k. list_true ps qs (sym f ∙ k)), (λ k. f ∙ ap (same_list ps) (sym k) ∙ list_refl ps))
