-- Positions dealt to words, whatever the word and the bits of a position are.
use Rattle.std.proofs.Common.{◌≡◌, ℕ, zero, suc, ◌+◌, ◌<◌, ◌≤◌, Bool, true, List, [], ◌∷◌, inl, inr, length, drop, get_or, bit_and, bit_or, nat_eq, min, max, ◌⊎◌, slice_set, slice_get, Some, refl, sym, ap, ◌∙◌, subst, arith}
use Rattle.std.specs.Int.{bit_at}
use Rattle.std.proofs.lemmas.Bool.{eqb-true, eq-eqb}
use Rattle.std.proofs.lemmas.Nat.{and_or_self}
use Rattle.std.proofs.lemmas.Nat.Bits.{same_from_bits, bit_at_and, bit_at_or}
use Rattle.theory.specs.Lists.{Has}
use Rattle.grid.specs.declared.pos.Pos.{Pos}
use Rattle.lines.specs.PositionFilter.{mask_at, AreSet}
use Rattle.lines.specs.Holding.{AreMarked, IsMarked, Keeps}
use Rattle.lines.proofs.Dropping.{drop_item, none_left}

more_bits : (a k m : ℕ) → bit_and a m ≡ m → bit_and (bit_or a k) m ≡ m
more_bits a k m e = same_from_bits (bit_and (bit_or a k) m) m
    (λ i.
    (let p : min (bit_at a i) (bit_at m i) ≡ bit_at m i = sym (bit_at_and a m i) ∙ ap (λ w. bit_at w i) e in
    bit_at_and (bit_or a k) m i ∙ ap (λ w. min w (bit_at m i)) (bit_at_or a k i) ∙ least (bit_at a i) (bit_at k i) (bit_at m i) p))
  where
    least : (x y z : ℕ) → min x z ≡ z → min (max x y) z ≡ z
    least x y z p = omega (arith, p)

equal_is : (a b : ℕ) → nat_eq a b ≡ true → a ≡ b
equal_is a b e = eqb-true a b e

is_equal : (a b : ℕ) → a ≡ b → nat_eq a b ≡ true
is_equal a b e = eq-eqb a b e

-- bits set in a word of the list
pub mask_set : (words : List ℕ) (at w mask : ℕ) → slice_get words at ≡ Some w → AreSet at mask words (slice_set words at (bit_or w mask))
mask_set [] at w mask e = absurd cc
mask_set (x ∷ words) zero w mask e =
    let h : x ≡ w = cc in (
      (λ n m k. keeps n m k h),
      is_equal (bit_and (bit_or w mask) mask) mask (and_or_self mask w),
    )
  where
    keeps : (n m : ℕ) → mask_at (x ∷ words) n m ≡ true → x ≡ w → mask_at (bit_or w mask ∷ words) n m ≡ true
    keeps zero m k h = is_equal (bit_and (bit_or w mask) m) m (more_bits w mask m (equal_is (bit_and w m) m (subst (λ u. nat_eq (bit_and u m) m ≡ true) h k)))
    keeps (suc n) m k h = k
mask_set (x ∷ words) (suc at) w mask e =
    let t = mask_set words at w mask e in (
      (λ n m k. keeps t.0 n m k),
      t.1,
    )
  where
    keeps : ((n m : ℕ) → mask_at words n m ≡ true → mask_at (slice_set words at (bit_or w mask)) n m ≡ true) → (n m : ℕ) → mask_at (x ∷ words) n m ≡ true → mask_at (x ∷ slice_set words at (bit_or w mask)) n m ≡ true
    keeps f zero m k = k
    keeps f (suc n) m k = f n m k

pub past_words : (words : List ℕ) (at mask : ℕ) → length words ≤ at → mask_at words at mask ≡ true
past_words [] at mask h = refl
past_words (x ∷ words) zero mask h = absurd (omega arith)
past_words (x ∷ words) (suc at) mask h = past_words words at mask (omega (arith, h))

-- of the positions those of which it does not hold are still to come
abbrev pub AreLeft : (Pos → Bool) → (Pos → Bool) → List Pos → List Pos → Type 0
AreLeft old new all left = Keeps old new × ((p : Pos) → Has p all → Has p left ⊎ (new p ≡ true))

pub one_marked : (old now new : Pos → Bool) (all : List Pos) (i : ℕ) (x : Pos) → i < length all → x ≡ get_or all i x →
    IsMarked x now new → AreLeft old now all (drop i all) → AreLeft old new all (drop (i + 1) all)
one_marked old now new all i x h e m before = (
  (λ p f. m.0 p (before.0 p f)),
  (λ p j. elim (before.1 p j) [
    | inl k ↦ elim (subst (Has p) (drop_item all i x h e) k) [
      | inl q ↦ inr (subst (λ w. new w ≡ true) (sym q) m.1)
      | inr q ↦ inl q
    ]
    | inr k ↦ inr (m.0 p k)
  ]),
)

-- behind the last
pub all_marked : (old new : Pos → Bool) (all : List Pos) (i : ℕ) → length all ≤ i → AreLeft old new all (drop i all) → AreMarked all old new
all_marked old new all i h m = (
  m.0,
  (λ p j. elim (m.1 p j) [
    | inl k ↦ absurd (none_left p all i h k)
    | inr k ↦ k
  ]),
)
