use Rattle.std.proofs.Common.{◌≡◌, ◌↔◌, ◌∙◌, ◌++◌, IsTrue, [], ap, append-nil, append_assoc, arith, map, refl, subst, sym}
use Rattle.geojson_io.proofs.Sets.{are_features}
use Rattle.reading.specs.Plain.{plain}
use Rattle.shapes.proofs.Members.{has_listed}
use Rattle.shapes.specs.Maps.{set_of}
use Rattle.shapes.specs.Sets as set
use Rattle.theory.specs.Lists.{Has, gathered}
use Rattle.rounded_maps.specs.Built.{HaveSame, plain_features, plains_of}
use Rattle.rounded_maps.proofs.Ends.{nothing_left}
use Rattle.rounded_maps.proofs.Same.{same_before, same_equal, same_features, same_then}
use Rattle.rounded_maps.proofs.building.set_of.Goals as goal

pub loop-feature-init : goal.loop-feature-init
loop-feature-init c =
    let rest = c.into_iter-feature-iterator.result.rest.items in
    same_equal (map plain c.in_ok-features.features.items ++ gathered plains_of rest) (plain_features c.args.map)
    (ap (λ l. map plain l ++ gathered plains_of rest) c.in_ok-features.ensures.items ∙ ap (gathered plains_of) c.into_iter-feature-iterator.ensures.into_iter_gives.0)

pub loop-feature-preserved : goal.loop-feature-preserved
loop-feature-preserved c =
    let old = map plain c.loop-feature.features.items in
    let new = map plain c.add_feature.new.features.items in
    let left = gathered plains_of c.next.new.self.rest.items in
    let some = plains_of c.in-Some.feature in
    let all = plain_features c.args.map in
    let split : old ++ gathered plains_of c.loop-feature.feature-iterator.rest.items ≡ (old ++ some) ++ left =
    ap (λ l. old ++ gathered plains_of l) c.in-Some.ensures.steps.0 ∙ sym (append_assoc old some left) in
    same_then (new ++ left) ((old ++ some) ++ left) all (same_before new (old ++ some) left c.in_ok-add_feature.ensures) (subst (λ ps. HaveSame ps all) split c.loop-feature.invariant)

pub returns-in-Ok : goal.returns-in-Ok
returns-in-Ok c =
    let given = c.loop-feature.features.items in
    let left = c.loop-feature.feature-iterator.rest in
    let ok = left.ok in
    let len = c.in-None.ensures.steps.0 in
    let none : left.items ≡ [] = nothing_left left.items (omega (arith, ok, len)) in
    let all : map plain given ++ gathered plains_of left.items ≡ map plain given = ap (λ fs. map plain given ++ gathered plains_of fs) none ∙ append-nil (map plain given) in
    same_features (set_of c.in-Ok.set) (map plain given) (plain_features c.args.map) (subst (λ ps. HaveSame ps (plain_features c.args.map)) all c.loop-feature.invariant)
    (are_features (set_of c.in-Ok.set) given (map plain given) (λ f. subst (λ s. IsTrue (set.contains s f) ↔ Has f given) (sym c.in-Ok.ensures) (has_listed given f)) refl)
