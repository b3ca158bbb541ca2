use Rattle.std.proofs.Common.{◌≡◌, ◌*◌, ◌^◌, pos, ap, ◌∙◌, arith}
use Rattle.std.specs.Int.Signed.{lt_z}
use Rattle.std.specs.Prelude.{unsigned_abs}
use Rattle.numerals.specs.Axis.{Axis, value_at, value_divisor}
use Rattle.numerals.proofs.Axes.{axis_measured, grid_kept, kept_wide, sign_by, some_value_divisor, value_bound}
use Rattle.numerals.proofs.axis.DecimalAxis.snap_measured.Goals as goal

pub parts_of-parts-requires : goal.parts_of-parts-requires
parts_of-parts-requires c = record {
  size = omega (
    arith,
    c.unsigned_abs.ensures.value ∙ ap unsigned_abs (kept_wide c.args.self.now c.args.number c.value-value.result c.value-value.ensures.limits c.requires (c.value-value.ensures.given ∙ ap (value_at c.args.self.now) (grid_kept c.args.number c.requires))),
    value_bound c.args.self.now c.args.number c.value-value.ensures.limits c.requires,
  );
}

pub returns : goal.returns
returns c p d =
    let a = c.args.self.now in
    let s = c.args.step.now in
    let v = value_at a c.args.number in
    let kept = kept_wide a c.args.number c.value-value.result c.value-value.ensures.limits c.requires (c.value-value.ensures.given ∙ ap (value_at a) (grid_kept c.args.number c.requires)) in
    let size : c.unsigned_abs.result ≡ unsigned_abs v = c.unsigned_abs.ensures.value ∙ ap unsigned_abs kept in
    let places : c.from.result ≡ a.places = c.from.ensures ∙ ap (λ (x : Axis). x.places) c.self.view_is in
    let parts = rw (size, places) at c.parts_of-parts.ensures.given in
    axis_measured a s c.args.number (lt_z v (pos 0)) c.nearest_with_distance.result (sign_by v)
    (rw kept at (c.nearest_with_distance.ensures (unsigned_abs v * 10 ^ s.places) (value_divisor a s) (some_value_divisor a s c.parts_of-parts.ensures.limits) parts)) p d
