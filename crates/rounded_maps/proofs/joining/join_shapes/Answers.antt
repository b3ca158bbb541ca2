use Rattle.std.proofs.Common.{◌≡◌, ◌∙◌, ◌∷◌, ◌++◌, [], ap, append-nil, append_assoc, arith, inr, refl, subst, sym}
use Rattle.snapping.specs.NearlyShared.Joined.{target_in}
use Rattle.rounded_maps.specs.Joined.{AreJoinedShapes}
use Rattle.rounded_maps.specs.Unjoined.{HasRefusedShape}
use Rattle.rounded_maps.proofs.Ends.{nothing_left}
use Rattle.rounded_maps.proofs.joining.join_shapes.Goals as goal

pub loop-shape-preserved : goal.loop-shape-preserved
loop-shape-preserved c =
    let rules = c.args.rules.now in
    let f = target_in c.args.clusters.now in
    let joined = c.loop-shape.joined.items in
    let split = c.in-Some.ensures.steps.0 in
    let one = c.in_ok-join_one.ensures.ok in
    record {
      joined = λ more after h.
          let all : AreJoinedShapes rules f (c.in-Some.shape ∷ c.next.new.self.rest.items) (one.0 ++ more) c.loop-shape.fixes after = (one.0, (more, (c.join_one.new.fixes, (refl, one.2, h)))) in
          subst (λ l. AreJoinedShapes rules f c.args.shapes.items l c.args.fixes.now after) (sym (ap (λ l. l ++ more) one.1 ∙ append_assoc joined one.0 more))
          (c.loop-shape.invariant.joined (one.0 ++ more) after (subst (λ ss. AreJoinedShapes rules f ss (one.0 ++ more) c.loop-shape.fixes after) (sym split) all));
      refused = λ kind h.
          c.loop-shape.invariant.refused kind (subst (λ ss. HasRefusedShape rules f ss kind) (sym split) (record { shape = h.shape; there = inr h.there; refused = h.refused }));
    }

pub returns-clause-ok : goal.returns-clause-ok
returns-clause-ok c =
    let rules = c.args.rules.now in
    let f = target_in c.args.clusters.now in
    let left = c.loop-shape.shape-iterator.rest in
    let ok = left.ok in
    let len = c.in-None.ensures.steps.0 in
    let none : left.items ≡ [] = nothing_left left.items (omega (arith, ok, len)) in
    subst (λ l. AreJoinedShapes rules f c.args.shapes.items l c.args.fixes.now c.loop-shape.fixes) (append-nil c.loop-shape.joined.items)
    (c.loop-shape.invariant.joined [] c.loop-shape.fixes (subst (λ ss. AreJoinedShapes rules f ss [] c.loop-shape.fixes c.loop-shape.fixes) (sym none) (refl, refl)))
