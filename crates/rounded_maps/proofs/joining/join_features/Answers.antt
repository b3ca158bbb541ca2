use Rattle.std.proofs.Common.{◌≡◌, ◌+◌, ◌∙◌, ◌∷◌, ◌++◌, [], ap, append_assoc, arith, inr, length, subst, sym}
use Rattle.std.proofs.lemmas.List.{length-append}
use Rattle.snapping.specs.NearlyShared.Joined.{target_in}
use Rattle.rounded_maps.specs.Joined.{AreJoined}
use Rattle.rounded_maps.specs.Unjoined.{HasRefusedFeature}
use Rattle.rounded_maps.proofs.Ends.{at_end, nothing_left}
use Rattle.rounded_maps.proofs.joining.join_features.Goals as goal

pub loop-feature-preserved : goal.loop-feature-preserved
loop-feature-preserved c =
    let rules = c.args.rules.now in
    let f = target_in c.args.clusters.now in
    let joined = c.loop-feature.joined.items in
    let left = c.next.new.self.rest.items in
    let split = c.in-Some.ensures.steps.0 in
    let one = c.in-Ok.ensures.ok in
    let more_of = length-append joined (one.0 ∷ []) in
    let counted : length c.join_next.new.joined.items ≡ length joined + 1 = ap length one.1 ∙ more_of in
    record {
      joined = λ more h.
          subst (AreJoined rules f c.args.features.items) (sym (ap (λ l. l ++ more) one.1 ∙ append_assoc joined (one.0 ∷ []) more))
          (c.loop-feature.invariant.joined (one.0 ∷ more) (subst (λ fs. AreJoined rules f fs (one.0 ∷ more)) (sym split) (one.2, h)));
      refused = λ fault h.
          c.loop-feature.invariant.refused fault
          (subst (λ fs. HasRefusedFeature rules f (length joined) fs fault) (sym split) (inr (subst (λ n. HasRefusedFeature rules f n left fault) counted h)));
    }

pub returns-clause-ok : goal.returns-clause-ok
returns-clause-ok c =
    let rules = c.args.rules.now in
    let f = target_in c.args.clusters.now in
    let left = c.loop-feature.feature-iterator.rest in
    let ok = left.ok in
    let len = c.in-None.ensures.steps.0 in
    let none : left.items ≡ [] = nothing_left left.items (omega (arith, ok, len)) in
    at_end (AreJoined rules f) (AreJoined rules f c.args.features.items) c.loop-feature.joined.items left.items none tt c.loop-feature.invariant.joined
