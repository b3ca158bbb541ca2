-- Numbers on another transform are the nearest ones.
use Rattle.std.proofs.Common.{◌≡◌, ℕ, suc, ◌+◌, ◌*◌, ◌/◌, ◌≤◌, ℤ, pos, negsuc, ◌*ℤ◌, ◌-ℤ◌, neg_ℤ, refl, subst, ap₂, arith}
use Rattle.std.specs.Prelude.{unsigned_abs}
use Rattle.fast_float.specs.Text.{with_sign}
use Rattle.numerals.specs.Amount.{is_below}
use Rattle.numerals.specs.Nearest.{IsNearest, IsRounded}
use Rattle.numerals.proofs.Nearest.{rounded_halves_of, to_nearest}
use Rattle.decimals.specs.Topology.Laws.{NumbersAreNearest, signed_by}
use Rattle.decimals.specs.Topology.QuantizedAxis.{nearest, rounded}

-- a number by its sign and its size
signed : (n : ℤ) → with_sign (is_below n) (unsigned_abs n) ≡ n
signed (pos n) = refl
signed (negsuc n) = refl

rounded_is : (n : ℤ) (d : ℕ) → 1 ≤ d → IsNearest n d (rounded n d)
rounded_is n d some =
    let m = unsigned_abs n in
    let top : m * 2 + d ≡ 2 * m + d = omega arith in
    let below : d * 2 ≡ 2 * d = omega arith in
    let q : IsRounded m d ((2 * m + d) / (2 * d)) = subst (IsRounded m d) (ap₂ (λ a b. a / b) top below) (rounded_halves_of m d (omega arith)) in
    subst (λ x. IsNearest x d (rounded n d)) (signed n) (to_nearest (is_below n) m d ((2 * m + d) / (2 * d)) q)

nearest_is : (n d : ℤ) → 1 ≤ unsigned_abs d → IsNearest (signed_by d n) (unsigned_abs d) (nearest n d)
nearest_is n (pos d) some = rounded_is n d some
nearest_is n (negsuc k) some = rounded_is (neg_ℤ n) (suc k) some

pub numbers_are_nearest : NumbersAreNearest
numbers_are_nearest a n some = nearest_is ((n *ℤ pos a.unit) -ℤ a.translate) a.scale some
