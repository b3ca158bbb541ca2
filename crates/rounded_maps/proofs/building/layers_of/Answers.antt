use Rattle.std.proofs.Common.{◌≡◌, ◌∙◌, ◌∷◌, [], ap, arith, map, string_bytes, subst, sym}
use Rattle.shapes.specs.Maps.{set_of, with_features}
use Rattle.rounded_maps.specs.Built.{AreLayersWith}
use Rattle.rounded_maps.proofs.Ends.{nothing_left}
use Rattle.rounded_maps.proofs.Layers.{layers_end}
use Rattle.rounded_maps.proofs.building.layers_of.Goals as goal

pub loop-map-preserved : goal.loop-map-preserved
loop-map-preserved c = λ after h.
    let old = c.loop-map.layers in
    let names = map string_bytes c.next-in-loop-map.new.self.rest.items in
    let maps = c.next.new.self.rest.items in
    let name = string_bytes c.in-Some-next.name in
    let one : AreLayersWith old (name ∷ names) (c.in-Some.map ∷ maps) after =
    (set_of c.in_ok-set_of.field-0, (c.in_ok-set_of.ensures, subst (λ l. AreLayersWith l names maps after) (c.in_ok-layers.ensures ∙ ap (λ n. with_features old n (set_of c.in_ok-set_of.field-0)) c.as_str.ensures.value) h)) in
    c.loop-map.invariant after
    (subst (λ ms. AreLayersWith old (map string_bytes c.loop-map.names.rest.items) ms after) (sym c.in-Some.ensures.steps.0)
    (subst (λ ns. AreLayersWith old (map string_bytes ns) (c.in-Some.map ∷ maps) after) (sym c.in-Some-next.ensures.cases.0) one))

pub returns : goal.returns
returns c =
    let old = c.loop-map.layers in
    let left = c.loop-map.map-iterator.rest in
    let names = map string_bytes c.loop-map.names.rest.items in
    let ok = left.ok in
    let len = c.in-None.ensures.steps.0 in
    let none : left.items ≡ [] = nothing_left left.items (omega (arith, ok, len)) in
    c.loop-map.invariant old (subst (λ ms. AreLayersWith old names ms old) (sym none) (layers_end old names))
