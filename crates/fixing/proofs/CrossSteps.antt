-- Whether a ray crosses a segment, in the form of the code.
use Rattle.std.proofs.Common.{◌≡◌, ℕ, Bool, true, false, cond, not, List, [], ◌∷◌, inl, inr, length, min, take, refl, sym, ap, ◌∙◌, arith, ℤ, FitsSigned, to_z, of_z, int_lt}
use Rattle.std.proofs.lemmas.Int.{to_z-of_z}
use Rattle.std.proofs.lemmas.List.{take_all}
use Rattle.std.proofs.lemmas.Bool.{cases_lt}
use Rattle.grid.specs.declared.pos.Pos.{Pos}
use Rattle.fixing.specs.Measures.{doubled, lies_started, lies_in, spread}
use mir.Syntax.{w64, w128}

-- a number that was passed
pub passed : (x y : ℤ) → FitsSigned w128 x → x ≡ y → to_z w128 (of_z w128 x) ≡ y
passed x y f e = to_z-of_z w128 x f ∙ e

pub less_means : (x y u v : ℤ) (r : Bool) → r ≡ int_lt u v → u ≡ x → v ≡ y → r ≡ int_lt x y
less_means x y u v r e p q = e ∙ (λ i. int_lt (p i) (q i))

pub doubled_means : (t n m : ℤ) → FitsSigned w64 n → t ≡ doubled (to_z w64 (of_z w64 n)) → n ≡ m → t ≡ doubled m
doubled_means t n m f e is = e ∙ ap doubled (to_z-of_z w64 n f ∙ is)

pub spread_means : (t a b c d p q r s : ℤ) → t ≡ spread a b c d → a ≡ p → b ≡ q → c ≡ r → d ≡ s → t ≡ spread p q r s
spread_means t a b c d p q r s e f g h k = e ∙ (λ i. spread (f i) (g i) (h i) (k i))

same_is : (s a b x y : Bool) → s ≡ cond a b (not b) → a ≡ x → b ≡ y → cond x y (not y) ≡ s
same_is s a b x y e f g = sym (e ∙ (λ i. cond (f i) (g i) (not (g i))))

-- both ends on one side
pub one_side : (s a b x y more : Bool) → s ≡ cond a b (not b) → a ≡ x → b ≡ y → s ≡ true → false ≡ cond (cond x y (not y)) false more
one_side s a b x y more e f g t = sym (ap (λ w. cond w false more) (same_is s a b x y e f g ∙ t))

-- on two sides, upwards and downwards
pub upwards : (s a b x y l z r up down : Bool) → s ≡ cond a b (not b) → a ≡ x → b ≡ y → s ≡ false → l ≡ z → l ≡ true → r ≡ up →
    r ≡ cond (cond x y (not y)) false (cond z up down)
upwards s a b x y l z r up down e f g n h t k =
    k ∙ sym (ap (λ w. cond w false (cond z up down)) (same_is s a b x y e f g ∙ n) ∙ ap (λ w. cond w up down) (sym h ∙ t))

pub downwards : (s a b x y l z r up down : Bool) → s ≡ cond a b (not b) → a ≡ x → b ≡ y → s ≡ false → l ≡ z → l ≡ false → r ≡ down →
    r ≡ cond (cond x y (not y)) false (cond z up down)
downwards s a b x y l z r up down e f g n h t k =
    k ∙ sym (ap (λ w. cond w false (cond z up down)) (same_is s a b x y e f g ∙ n) ∙ ap (λ w. cond w up down) (sym h ∙ t))

-- the first nine of a list, or all
pub first_nine : (l : List Pos) (n : ℕ) → n ≡ min (length l) 9 → take n l ≡ take 9 l
first_nine l n e = elim (cases_lt (length l) 9) [
  | inl h ↦ take_all n l (omega arith) ∙ sym (take_all 9 l (omega arith))
  | inr h ↦ (let m : n ≡ 9 = omega arith in ap (λ k. take k l) m)
]

-- a ring without a position
pub none_started : (ring other begun : List Pos) (n : ℕ) → begun ≡ take n ring → n ≡ min (length ring) 9 → length begun ≡ 0 → false ≡ lies_in ring other
unfolding lies_in
none_started ring other begun n e m z = go begun z ∙ ap (λ l. lies_started l other) (e ∙ first_nine ring n m)
  where
    go : (l : List Pos) → length l ≡ 0 → false ≡ lies_started l other
    go [] z = refl
    go (x ∷ l) z = absurd (omega arith)

-- the same of what is counted
pub started_means : (ring other : List Pos) (r : Bool) → r ≡ lies_started (take 9 ring) other → r ≡ lies_in ring other
unfolding lies_in
started_means ring other r e = e
