use Rattle.std.proofs.Common.{◌∙◌, ◌∷◌, ◌++◌, [], ap, append_assoc, append-nil, arith, refl, subst, sym}
use Rattle.rounded_maps.specs.Topologies.{AreLayerMaps, IsLayerMap, kept_unless}
use Rattle.rounded_maps.specs.declared.files.Origin.{Origin}
use Rattle.rounded_maps.proofs.Ends.{nothing_left}
use Rattle.rounded_maps.proofs.files.layer_maps.Goals as goal

pub loop-layer-preserved : goal.loop-layer-preserved
loop-layer-preserved c =
    let rules = c.args.rules.now in
    let place = c.args.place in
    let renamed = c.args.renamed in
    let l = c.loop-layer in
    let left = c.next.new.self.rest.items in
    let layer = c.in-Some.layer in
    let m = c.in_ok-layer_map.field-0 in
    let o : Origin = record { text = place; layer = kept_unless renamed layer.name } in
    let one : IsLayerMap rules place renamed layer m o = record { fixed = c.in_ok-layer_map.ensures; from = refl } in
    let split = c.in-Some.ensures.steps.0 in
    λ more others h.
    subst (λ ms. AreLayerMaps rules place renamed c.args.layers.items ms (c.push-in-loop-layer.new.self.items ++ others)) (sym (ap (λ k. k ++ more) c.in_ok-push.ensures.items ∙ append_assoc l.read.maps.items (m ∷ []) more))
    (subst (λ os. AreLayerMaps rules place renamed c.args.layers.items (l.read.maps.items ++ m ∷ more) os) (sym (ap (λ k. k ++ others) (c.in_ok-push-2.ensures.items ∙ ap (λ n. l.read.origins.items ++ record { text = place; layer = n } ∷ []) c.name_unless.ensures) ∙ append_assoc l.read.origins.items (o ∷ []) others))
    (l.invariant (m ∷ more) (o ∷ others) (subst (λ ls. AreLayerMaps rules place renamed ls (m ∷ more) (o ∷ others)) (sym split) (one, h))))

pub returns : goal.returns
returns c =
    let rules = c.args.rules.now in
    let place = c.args.place in
    let renamed = c.args.renamed in
    let l = c.loop-layer in
    let left = l.layer-iterator.rest in
    let ok = left.ok in
    let len = c.in-None.ensures.steps.0 in
    let none = nothing_left left.items (omega (arith, ok, len)) in
    let nothing : AreLayerMaps rules place renamed left.items [] [] = subst (λ ls. AreLayerMaps rules place renamed ls [] []) (sym none) tt in
    subst (λ ms. AreLayerMaps rules place renamed c.args.layers.items ms l.read.origins.items) (append-nil l.read.maps.items)
    (subst (λ os. AreLayerMaps rules place renamed c.args.layers.items (l.read.maps.items ++ []) os) (append-nil l.read.origins.items) (l.invariant [] [] nothing))
