-- The steps along a ring, of which the area is taken.
use Rattle.std.proofs.Common.{◌≡◌, ◌<◌, ℕ, ◌+◌, List, [], ◌∷◌, length, drop, get_or, refl, sym, ap, ◌∙◌, arith, ℤ, pos, ◌+ℤ◌, ◌-ℤ◌, ◌*ℤ◌, FitsSigned}
use Rattle.std.specs.Int.{int_wrap, int_wrapping_sub}
use Rattle.std.proofs.lemmas.Int.{int_wrap-add_left, int_wrap-add_right, int_wrap-sub_right, ints, wrapping_sub_is}
use Rattle.grid.specs.declared.pos.Pos.{Pos}
use Rattle.lines.proofs.Dropping.{drop_item}
use Rattle.fixing.specs.Measures.{area_from, cross, twice_area}
use mir.Syntax.{w128}

moved : (a b c : ℤ) → (a +ℤ b) +ℤ c ≡ (a +ℤ c) +ℤ b
moved a b c = omega (arith, ints)

joined : (a b c : ℤ) → (a +ℤ c) +ℤ b ≡ a +ℤ (b +ℤ c)
joined a b c = omega (arith, ints)

pub none_added : (a : ℤ) → pos 0 +ℤ a ≡ a
none_added a = omega (arith, ints)

pub none_left : (a : ℤ) → a +ℤ pos 0 ≡ a
none_left a = omega (arith, ints)

-- one segment more
pub area_more : (sum more part whole : ℤ) (others : List Pos) (i : ℕ) (here next : Pos) → i < length others → next ≡ get_or others i next →
    part ≡ int_wrap w128 (cross here next) → more ≡ int_wrap w128 (sum +ℤ part) →
    int_wrap w128 (sum +ℤ area_from here (drop i others)) ≡ whole → int_wrap w128 (more +ℤ area_from next (drop (i + 1) others)) ≡ whole
area_more sum more part whole others i here next h e is made before =
    let rest = area_from next (drop (i + 1) others) in
    ap (λ m. int_wrap w128 (m +ℤ area_from next (drop (i + 1) others))) made
    ∙ int_wrap-add_left w128 (sum +ℤ part) rest
    ∙ ap (λ m. int_wrap w128 m) (moved sum part rest)
    ∙ ap (λ m. int_wrap w128 ((sum +ℤ area_from next (drop (i + 1) others)) +ℤ m)) is
    ∙ int_wrap-add_right w128 (sum +ℤ rest) (cross here next)
    ∙ ap (λ m. int_wrap w128 m) (joined sum (cross here next) rest)
    ∙ ap (λ l. int_wrap w128 (sum +ℤ area_from here l)) (sym (drop_item others i next h e))
    ∙ before

minus : (a b : ℤ) → a -ℤ b ≡ a +ℤ (pos 0 -ℤ b)
minus a b = omega (arith, ints)

wrapped_minus : (a b : ℤ) → int_wrap w128 (int_wrap w128 a -ℤ int_wrap w128 b) ≡ int_wrap w128 (a -ℤ b)
wrapped_minus a b =
    int_wrap-sub_right w128 (int_wrap w128 a) b
    ∙ ap (λ m. int_wrap w128 m) (minus (int_wrap w128 a) b)
    ∙ int_wrap-add_left w128 a (pos 0 -ℤ b)
    ∙ ap (λ m. int_wrap w128 m) (sym (minus a b))

-- the triangle of two positions, from two products
pub cross_means : (p q ax ay bx by : ℤ) (a b : Pos) → FitsSigned w128 p → FitsSigned w128 q → p ≡ int_wrap w128 (ax *ℤ by) → q ≡ int_wrap w128 (bx *ℤ ay) →
    ax ≡ a.x → ay ≡ a.y → bx ≡ b.x → by ≡ b.y → int_wrapping_sub w128 p q ≡ int_wrap w128 (cross a b)
cross_means p q ax ay bx by a b f g e h k l m n =
    wrapping_sub_is w128 p q f g
    ∙ (λ i. int_wrap w128 ((e ∙ (λ j. int_wrap w128 (k j *ℤ n j))) i -ℤ (h ∙ (λ j. int_wrap w128 (m j *ℤ l j))) i))
    ∙ wrapped_minus (a.x *ℤ b.y) (b.x *ℤ a.y)

-- no segment adds nothing
pub no_area : (closed : List Pos) → length closed ≡ 0 → pos 0 ≡ int_wrap w128 (twice_area closed)
unfolding int_wrap
no_area [] n = refl
no_area (x ∷ l) n = absurd (omega arith)
