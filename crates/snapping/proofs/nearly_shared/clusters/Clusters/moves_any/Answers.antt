use Rattle.std.proofs.Common.{◌≡◌, ◌++◌, true, false, inl, inr, refl, sym, ap, ◌∙◌, subst}
use Rattle.lines.proofs.Dropping.{drop_item, item_at, none_left}
use Rattle.compare.specs.declared.quality.vertex.VertexUse.{VertexUse}
use Rattle.theory.specs.Lists.{Has}
use Rattle.theory.proofs.ListsOfLists.{get_has}
use Rattle.snapping.specs.NearlyShared.Joined.{target_in}
use Rattle.snapping.specs.NearlyShared.Uses.{shape_uses}
use Rattle.snapping.proofs.NearlySharedLemmas.Clustering.{apart_is, same_is}
use Rattle.snapping.proofs.nearly_shared.clusters.Clusters.moves_any.Goals as goal

pub loop-used-preserved : goal.loop-used-preserved
loop-used-preserved c = λ u h n.
    let i = c.loop-used.used-index in
    let is = drop_item c.deref-used-items.result.now i c.used-item.result c.loop-used-test.true c.used-item.is in
    let stays : target_in c.args.self.now c.used-item.result.at ≡ c.used-item.result.at =
    sym c.target.ensures ∙ same_is c.target.result c.used-item.result.at c.if-ne.ensures in
    elim (subst (Has u) is (c.loop-used.invariant u h n)) [
      | inl e ↦ absurd (n (subst (λ (w : VertexUse). target_in c.args.self.now w.at ≡ w.at) (sym e) stays))
      | inr k ↦ k
    ]

pub returns-then-ne : goal.returns-then-ne
returns-then-ne c =
    let all : c.deref-used-items.result.now ≡ shape_uses 0 c.args.shape.now =
    c.deref-used-items.ensures.value ∙ c.in_ok-add_uses_of_shape.ensures ∙ ap (λ l. l ++ shape_uses 0 c.args.shape.now) c.new-uses.ensures.items in
    let there = get_has c.deref-used-items.result.now c.loop-used.used-index c.used-item.result
    (item_at c.deref-used-items.result.now c.loop-used.used-index c.used-item.result c.loop-used-test.true c.used-item.is) in
    ((λ t. (c.used-item.result, subst (Has c.used-item.result) all there, λ e. apart_is c.target.result c.used-item.result.at c.if-ne.ensures (c.target.ensures ∙ e))), λ m. refl)

pub returns : goal.returns
returns c =
    let all : c.deref-used-items.result.now ≡ shape_uses 0 c.args.shape.now =
    c.deref-used-items.ensures.value ∙ c.in_ok-add_uses_of_shape.ensures ∙ ap (λ l. l ++ shape_uses 0 c.args.shape.now) c.new-uses.ensures.items in
    ((λ t. absurd (let k : false ≡ true = t in cc)), λ m. absurd (none_left m.0 c.deref-used-items.result.now c.loop-used.used-index c.loop-used-test.false (c.loop-used.invariant m.0 (subst (Has m.0) (sym all) m.1) m.2)))
