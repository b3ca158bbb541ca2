use Rattle.std.proofs.Common.{◌≡◌, ◌-◌, ◌*◌, ◌^◌, min, to_z, of_z, ap₂, ◌∙◌, arith}
use Rattle.std.proofs.lemmas.Int.{ints}
use Rattle.std.specs.Int.{w128}
use Rattle.std.specs.Prelude.{unsigned_abs}
use Rattle.decimals.proofs.TopologyLemmas.Powers.{capped_axis}
use Rattle.decimals.proofs.topology.quantized_axis.QuantizedAxis.with_unit.Goals as goal

pub returns : goal.returns
returns c =
    let u = c.args.unit.now in
    let a = c.args.axis.now in
    let s = c.times_power_signed.result in
    let t = c.times_power_signed-2.result in
    let more : c.saturating_sub-more.result ≡ a.places - u.places = omega (arith, c.saturating_sub-more.ensures, c.places.ensures, c.places-2.ensures) in
    let less : c.saturating_sub-less.result ≡ u.places - a.places = omega (arith, c.saturating_sub-less.ensures, c.places-3.ensures, c.places-4.ensures) in
    let scale : to_z w128 (of_z w128 c.scale.result) ≡ a.scale = (omega (arith, ints)) ∙ c.scale.ensures.value in
    let translate : to_z w128 (of_z w128 c.translate.result) ≡ a.translate = (omega (arith, ints)) ∙ c.translate.ensures in
    let own : to_z w128 (of_z w128 s) ≡ s = omega (arith, ints) in
    let own2 : to_z w128 (of_z w128 t) ≡ t = omega (arith, ints) in
    let unit : c.times_power.result ≡ min (u.size * 10 ^ (a.places - u.places)) (10 ^ 37) = c.times_power.ensures ∙ ap₂ (λ x n. min (x * 10 ^ n) (10 ^ 37)) c.size.ensures.value more in
    let s_size : unsigned_abs s ≡ min (unsigned_abs a.scale * 10 ^ (u.places - a.places)) (10 ^ 37) =
    c.times_power_signed.ensures.size ∙ ap₂ (λ z n. min (unsigned_abs z * 10 ^ n) (10 ^ 37)) scale less in
    let t_size : unsigned_abs t ≡ min (unsigned_abs a.translate * 10 ^ (u.places - a.places)) (10 ^ 37) =
    c.times_power_signed-2.ensures.size ∙ ap₂ (λ z n. min (unsigned_abs z * 10 ^ n) (10 ^ 37)) translate less in
    capped_axis c.new.result u.size c.times_power.result (a.places - u.places) a.scale s a.translate t (u.places - a.places)
    unit s_size (rw (scale, less) at c.times_power_signed.ensures.value) t_size (rw (translate, less) at c.times_power_signed-2.ensures.value)
    (rw (own, own2) at c.new.ensures)
