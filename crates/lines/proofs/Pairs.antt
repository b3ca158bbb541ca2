-- Unordered pairs of positions.
use Rattle.std.proofs.Common.{◌≡◌, Bool, true, false, cond, ◌⊎◌, inl, inr, refl, sym, ap, ◌∙◌, subst}
use Rattle.std.specs.Cmp.{IsTotalOrder, then_total, on_total}
use Rattle.std.specs.Ordering.{is_lt, ordering_reverse}
use Rattle.std.specs.declared.cmp.Ordering.{Ordering}
use Rattle.std.specs.declared.cmp.Ordering.TheVariants.{Less, Equal, Greater}
use Rattle.grid.specs.declared.pos.Pos.{Pos}
use Rattle.lines.specs.Turned.{position_cmp}
use Rattle.lines.specs.Positions.{position_total, position_same, then_equal}
use Rattle.lines.specs.Pairs.{position_eq, pair_eq, pair_cmp, pair_of}
use Rattle.lines.specs.declared.pair.PositionPair.{PositionPair}
use Rattle.lines.proofs.Positions.{position_true, position_refl, both_true, both_intro}

pub pair_total : IsTotalOrder pair_cmp
pair_total = then_total (on_total (λ (s : PositionPair). s.lesser) position_total) (on_total (λ (s : PositionPair). s.greater) position_total)

one_pair : (s t : PositionPair) → s.lesser ≡ t.lesser → s.greater ≡ t.greater → s ≡ t
one_pair s t a b = λ i. record { lesser = a i; greater = b i }

pub pair_tied : (s t : PositionPair) → pair_cmp s t ≡ Equal → s ≡ t
pair_tied s t e =
    let h = then_equal (position_cmp s.lesser t.lesser) (position_cmp s.greater t.greater) e in
    one_pair s t (position_same s.lesser t.lesser h.0) (position_same s.greater t.greater h.1)

pub pair_true : (s t : PositionPair) → pair_eq s t ≡ true → s ≡ t
pair_true s t e =
    let h = both_true (position_eq s.lesser t.lesser) (position_eq s.greater t.greater) e in
    one_pair s t (position_true s.lesser t.lesser h.0) (position_true s.greater t.greater h.1)

pub pair_refl : (s t : PositionPair) → s ≡ t → pair_eq s t ≡ true
pair_refl s t e =
    subst (λ w. pair_eq s w ≡ true) e (both_intro (position_eq s.lesser s.lesser) (position_eq s.greater s.greater) (position_refl s.lesser) (position_refl s.greater))

pub pair_same : (a b c d : Pos) → pair_of a b ≡ pair_of c d → ((a ≡ c) × (b ≡ d)) ⊎ ((a ≡ d) × (b ≡ c))
pair_same a b c d = go (is_lt (position_cmp a b)) (is_lt (position_cmp c d))
  where
    go : (s t : Bool) → ◌≡◌ {A = PositionPair} (cond s (record { lesser = a; greater = b }) (record { lesser = b; greater = a })) (cond t (record { lesser = c; greater = d }) (record { lesser = d; greater = c })) → ((a ≡ c) × (b ≡ d)) ⊎ ((a ≡ d) × (b ≡ c))
    go true true e = inl (ap (λ w. w.lesser) e, ap (λ w. w.greater) e)
    go true false e = inr (ap (λ w. w.lesser) e, ap (λ w. w.greater) e)
    go false true e = inr (ap (λ w. w.greater) e, ap (λ w. w.lesser) e)
    go false false e = inl (ap (λ w. w.greater) e, ap (λ w. w.lesser) e)

pub pair_flip : (a b : Pos) → pair_of a b ≡ pair_of b a
pair_flip a b = go (position_cmp a b) (position_cmp b a) refl (position_total.antisymm a b)
  where
    go : (r s : Ordering) → position_cmp a b ≡ r → r ≡ ordering_reverse s →
        ◌≡◌ {A = PositionPair} (cond (is_lt r) (record { lesser = a; greater = b }) (record { lesser = b; greater = a })) (cond (is_lt s) (record { lesser = b; greater = a }) (record { lesser = a; greater = b }))
    go Less Less p e = cc
    go Less Equal p e = cc
    go Less Greater p e = refl
    go Equal Less p e = cc
    go Equal Equal p e = let q = position_same a b p in λ i. record { lesser = sym q i; greater = q i }
    go Equal Greater p e = cc
    go Greater Less p e = refl
    go Greater Equal p e = cc
    go Greater Greater p e = cc

pub pair_at : (x y u w : Pos) → x ≡ u → y ≡ w → pair_of x y ≡ pair_of u w
pair_at x y u w e f = λ i. pair_of (e i) (f i)

-- the two ends differ, and stand in order
abbrev pub InOrder : PositionPair → Type 0
InOrder p = is_lt (position_cmp p.lesser p.greater) ≡ true

pub pair_ordered : (a b : Pos) → ¬ (a ≡ b) → InOrder (pair_of a b)
pair_ordered a b n = go (position_cmp a b) refl (position_total.antisymm b a)
  where
    go : (r : Ordering) → position_cmp a b ≡ r → position_cmp b a ≡ ordering_reverse (position_cmp a b) →
        InOrder (cond (is_lt r) (record { lesser = a; greater = b }) (record { lesser = b; greater = a }))
    go Less e f = ap is_lt e
    go Equal e f = absurd (n (position_same a b e))
    go Greater e f = ap is_lt (f ∙ ap ordering_reverse e)

-- the pair has these two ends
abbrev pub EndsAre : Pos → Pos → PositionPair → Type 0
EndsAre a b p = ◌≡◌ {A = Pos × Pos} (p.lesser, p.greater) (a, b) ⊎ ◌≡◌ {A = Pos × Pos} (p.lesser, p.greater) (b, a)

pub pair_between : (a b : Pos) → EndsAre a b (pair_of a b)
pair_between a b = go (is_lt (position_cmp a b))
  where
    go : (t : Bool) → EndsAre a b (cond t (record { lesser = a; greater = b }) (record { lesser = b; greater = a }))
    go true = inl refl
    go false = inr refl
