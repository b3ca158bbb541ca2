-- Numbers times powers of ten, up to a limit.
use Rattle.std.proofs.Common.{◌≡◌, ℕ, zero, suc, ◌*◌, ◌^◌, ◌<◌, ◌≤◌, min, ℤ, pos, ◌*ℤ◌, Option, Some, None, inl, inr, refl, subst, ◌∙◌, lit<, arith, zero-mul, mul-le-mul_right}
use Rattle.std.proofs.Math.Nat.{pow-le-pow_right}
use Rattle.std.proofs.lemmas.Bool.{cases_lt}
use Rattle.std.proofs.lemmas.Int.{unsigned_abs-mul}
use Rattle.std.specs.Option.{SomeIff}
use Rattle.std.specs.Prelude.{unsigned_abs}
use Rattle.decimals.specs.Topology.QuantizedAxis.{AxisParts, IsQuantizedAxis, axis_parts}

-- from the thirty-seventh on, zeros behind a number make no difference
pub few_zeros : (v z : ℕ) → min (v * 10 ^ min z 37) (10 ^ 37) ≡ min (v * 10 ^ z) (10 ^ 37)
few_zeros zero z = omega (arith, zero-mul (10 ^ min z 37), zero-mul (10 ^ z))
few_zeros (suc v) z =
    elim (cases_lt 37 z) [
      | inl h ↦
          let e : min z 37 ≡ 37 = omega arith in
          let some : 1 ≤ suc v = omega arith in
          let large : 10 ^ 37 ≤ 10 ^ z = pow-le-pow_right (lit< tt) {i = 37} (omega arith) in
          rw e (omega (arith, large, mul-le-mul_right (10 ^ 37) some, mul-le-mul_right (10 ^ z) some))
      | inr h ↦ let e : min z 37 ≡ z = omega arith in rw e refl
    ]

-- an axis whose three numbers were times powers of ten, up to the limit
pub capped_axis : (r : Option AxisParts) (size unit : ℕ) (more : ℕ) (s s' t t' : ℤ) (n : ℕ)
    → unit ≡ min (size * 10 ^ more) (10 ^ 37)
    → unsigned_abs s' ≡ min (unsigned_abs s * 10 ^ n) (10 ^ 37) → (unsigned_abs s * 10 ^ n < 10 ^ 37 → s' ≡ s *ℤ pos (10 ^ n))
    → unsigned_abs t' ≡ min (unsigned_abs t * 10 ^ n) (10 ^ 37) → (unsigned_abs t * 10 ^ n < 10 ^ 37 → t' ≡ t *ℤ pos (10 ^ n))
    → SomeIff r (IsQuantizedAxis (axis_parts unit s' t')) (axis_parts unit s' t')
    → SomeIff r (IsQuantizedAxis (axis_parts (size * 10 ^ more) (s *ℤ pos (10 ^ n)) (t *ℤ pos (10 ^ n)))) (axis_parts (size * 10 ^ more) (s *ℤ pos (10 ^ n)) (t *ℤ pos (10 ^ n)))
capped_axis None size unit more s s' t t' n eu es vs et vt not = λ w.
    let sizes : unsigned_abs (s *ℤ pos (10 ^ n)) ≡ unsigned_abs s * 10 ^ n = unsigned_abs-mul s (pos (10 ^ n)) in
    let places : unsigned_abs (t *ℤ pos (10 ^ n)) ≡ unsigned_abs t * 10 ^ n = unsigned_abs-mul t (pos (10 ^ n)) in
    not (record {
      unit = omega (arith, eu, w.unit);
      some = omega (arith, es, sizes, w.some, w.scale);
      scale = omega (arith, es, sizes, w.scale);
      translate = omega (arith, et, places, w.translate);
    })
capped_axis (Some x) size unit more s s' t t' n eu es vs et vt h =
    let w = h.0 in
    let unit_is : unit ≡ size * 10 ^ more = omega (arith, eu, w.unit) in
    let scale_is : s' ≡ s *ℤ pos (10 ^ n) = vs (omega (arith, es, w.scale)) in
    let translate_is : t' ≡ t *ℤ pos (10 ^ n) = vt (omega (arith, et, w.translate)) in
    let same : axis_parts unit s' t' ≡ axis_parts (size * 10 ^ more) (s *ℤ pos (10 ^ n)) (t *ℤ pos (10 ^ n)) = (λ i. axis_parts (unit_is i) (scale_is i) (translate_is i)) in
    (subst IsQuantizedAxis same w, h.1 ∙ same)
