use Rattle.std.proofs.Common.{◌≡◌, ◌+◌, pos, ◌*ℤ◌, to_z, of_z, w64, ap, ◌∙◌, sym, subst, arith}
use Rattle.std.proofs.lemmas.Int.{ints, to_z-of_z}
use Rattle.std.specs.Int.{w128}
use Rattle.numerals.specs.Amount.{amount, amount_text}
use Rattle.decimals.specs.Topology.BoxTransform.{box_axis, box_scale, parts_of}
use Rattle.decimals.specs.Topology.QuantizedAxis.{IsQuantizedAxis, axis_parts}
use Rattle.decimals.proofs.topology.box_transform.box_axis.Goals as goal

pub returns-in_default-clause-refused : goal.returns-in_default-clause-refused
returns-in_default-clause-refused c = λ _ b.
    let u = c.args.unit.now in
    let whole : to_z w64 (of_z w64 c.args.low) ≡ c.args.low = to_z-of_z w64 c.args.low c.ranges.low in
    let last : to_z w64 (of_z w64 c.args.high) ≡ c.args.high = to_z-of_z w64 c.args.high c.ranges.high in
    let unit : c.from.result ≡ parts_of u = c.from.ensures ∙ c.parts_of-parts.ensures.value in
    let scale : to_z w128 (of_z w128 c.scale_of-scale.result) ≡ box_scale u c.args.steps c.args.low c.args.high =
    (omega (arith, ints, c.scale_of-scale.ensures.bound)) ∙ (rw (whole, last) at c.scale_of-scale.ensures.value) in
    let place : to_z w128 (of_z w128 c.worth.result) ≡ c.args.low *ℤ pos (parts_of u) =
    (omega (arith, ints, c.worth.ensures.bound)) ∙ ((rw whole at c.worth.ensures.value) ∙ ap (λ n. c.args.low *ℤ pos n) c.parts_of-parts.ensures.value) in
    let same : axis_parts c.from.result (to_z w128 (of_z w128 c.scale_of-scale.result)) (to_z w128 (of_z w128 c.worth.result)) ≡ box_axis u c.args.steps c.args.low c.args.high =
    (λ i. axis_parts (unit i) (scale i) (place i)) in
    c.in_default.ensures (subst IsQuantizedAxis (sym same) b.limits)

pub returns-clause-axis : goal.returns-clause-axis
returns-clause-axis c =
    let u = c.args.unit.now in
    let whole : to_z w64 (of_z w64 c.args.low) ≡ c.args.low = to_z-of_z w64 c.args.low c.ranges.low in
    let last : to_z w64 (of_z w64 c.args.high) ≡ c.args.high = to_z-of_z w64 c.args.high c.ranges.high in
    let unit : c.from.result ≡ parts_of u = c.from.ensures ∙ c.parts_of-parts.ensures.value in
    let scale : to_z w128 (of_z w128 c.scale_of-scale.result) ≡ box_scale u c.args.steps c.args.low c.args.high =
    (omega (arith, ints, c.scale_of-scale.ensures.bound)) ∙ (rw (whole, last) at c.scale_of-scale.ensures.value) in
    let place : to_z w128 (of_z w128 c.worth.result) ≡ c.args.low *ℤ pos (parts_of u) =
    (omega (arith, ints, c.worth.ensures.bound)) ∙ ((rw whole at c.worth.ensures.value) ∙ ap (λ n. c.args.low *ℤ pos n) c.parts_of-parts.ensures.value) in
    let same : axis_parts c.from.result (to_z w128 (of_z w128 c.scale_of-scale.result)) (to_z w128 (of_z w128 c.worth.result)) ≡ box_axis u c.args.steps c.args.low c.args.high =
    (λ i. axis_parts (unit i) (scale i) (place i)) in
    c.in-Some.ensures.1 ∙ same

pub returns-clause-scale : goal.returns-clause-scale
returns-clause-scale c =
    let u = c.args.unit.now in
    let whole : to_z w64 (of_z w64 c.args.low) ≡ c.args.low = to_z-of_z w64 c.args.low c.ranges.low in
    let last : to_z w64 (of_z w64 c.args.high) ≡ c.args.high = to_z-of_z w64 c.args.high c.ranges.high in
    let scale : to_z w128 (of_z w128 c.scale_of-scale.result) ≡ box_scale u c.args.steps c.args.low c.args.high =
    (omega (arith, ints, c.scale_of-scale.ensures.bound)) ∙ (rw (whole, last) at c.scale_of-scale.ensures.value) in
    let places : c.places-2.result + 12 ≡ u.places + 12 = omega (arith, c.places-2.ensures) in
    c.in_ok-scale.ensures ∙ ap amount_text (c.in-Some-new.ensures.1 ∙ (λ i. amount (scale i) (places i)))

pub returns-clause-within : goal.returns-clause-within
returns-clause-within c =
    let u = c.args.unit.now in
    let whole : to_z w64 (of_z w64 c.args.low) ≡ c.args.low = to_z-of_z w64 c.args.low c.ranges.low in
    let last : to_z w64 (of_z w64 c.args.high) ≡ c.args.high = to_z-of_z w64 c.args.high c.ranges.high in
    let unit : c.from.result ≡ parts_of u = c.from.ensures ∙ c.parts_of-parts.ensures.value in
    let scale : to_z w128 (of_z w128 c.scale_of-scale.result) ≡ box_scale u c.args.steps c.args.low c.args.high =
    (omega (arith, ints, c.scale_of-scale.ensures.bound)) ∙ (rw (whole, last) at c.scale_of-scale.ensures.value) in
    let place : to_z w128 (of_z w128 c.worth.result) ≡ c.args.low *ℤ pos (parts_of u) =
    (omega (arith, ints, c.worth.ensures.bound)) ∙ ((rw whole at c.worth.ensures.value) ∙ ap (λ n. c.args.low *ℤ pos n) c.parts_of-parts.ensures.value) in
    let same : axis_parts c.from.result (to_z w128 (of_z w128 c.scale_of-scale.result)) (to_z w128 (of_z w128 c.worth.result)) ≡ box_axis u c.args.steps c.args.low c.args.high =
    (λ i. axis_parts (unit i) (scale i) (place i)) in
    record { places = omega (arith, c.places.ensures, c.if-places-gt-MOST_PLACES.false); limits = subst IsQuantizedAxis same c.in-Some.ensures.0 }
