use Rattle.std.proofs.Common.{◌≡◌, ◌+◌, ◌∙◌, ◌∷◌, ◌++◌, [], ap, append_assoc, arith, inr, length, subst, sym}
use Rattle.std.proofs.lemmas.List.{length-append}
use Rattle.snapping.specs.NearlyShared.Joined.{target_in}
use Rattle.rounded_maps.specs.Joined.{AreJoinedMaps}
use Rattle.rounded_maps.specs.Unjoined.{HasUnjoinedMap}
use Rattle.rounded_maps.proofs.Ends.{at_end, nothing_left}
use Rattle.rounded_maps.proofs.building.join_maps.Goals as goal

pub loop-map-preserved : goal.loop-map-preserved
loop-map-preserved c =
    let rules = c.args.rules.now in
    let f = target_in c.args.clusters.now in
    let joined = c.loop-map.joined.items in
    let left = c.next.new.self.rest.items in
    let split = c.in-Some.ensures.steps.0 in
    let grown = c.in_ok-push-in-Ok.ensures.items in
    let counted : length c.push.new.self.items ≡ length joined + 1 = ap length grown ∙ length-append joined (c.in-Ok.map ∷ []) in
    record {
      joined = λ more h.
          subst (AreJoinedMaps rules f c.args.maps.items) (sym (ap (λ l. l ++ more) grown ∙ append_assoc joined (c.in-Ok.map ∷ []) more))
          (c.loop-map.invariant.joined (c.in-Ok.map ∷ more) (subst (λ ms. AreJoinedMaps rules f ms (c.in-Ok.map ∷ more)) (sym split) (c.in-Ok.ensures.ok, h)));
      refused = λ place fault h.
          c.loop-map.invariant.refused place fault
          (subst (λ ms. HasUnjoinedMap rules f (length joined) ms place fault) (sym split) (inr (subst (λ n. HasUnjoinedMap rules f n left place fault) counted h)));
    }

pub returns-clause-ok : goal.returns-clause-ok
returns-clause-ok c =
    let rules = c.args.rules.now in
    let f = target_in c.args.clusters.now in
    let left = c.loop-map.map-iterator.rest in
    let ok = left.ok in
    let len = c.in-None.ensures.steps.0 in
    let none : left.items ≡ [] = nothing_left left.items (omega (arith, ok, len)) in
    at_end (AreJoinedMaps rules f) (AreJoinedMaps rules f c.args.maps.items) c.loop-map.joined.items left.items none tt c.loop-map.invariant.joined
