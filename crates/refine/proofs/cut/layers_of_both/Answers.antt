use Rattle.std.proofs.Common.{◌≡◌, ◌++◌, sym, subst, IfSome, rules}
use Rattle.std.specs.Vec.Iter.{into_iter_items}
use Rattle.topo.specs.GeometryOrder.{HaveFeatures, LayersHaveFeatures}
use Rattle.topo.specs.LayerLaws.CutLayers.{layer_cmp, layers_as_one, layers_merged, with_other}
use Rattle.topo.proofs.LayerLawsLemmas.MergedSteps.{all_behind, next_united, tied_has}
use Rattle.refine.proofs.cut.layers_of_both.Goals as goal

pub loop-layer-init : goal.loop-layer-init
loop-layer-init c = record { recorded = c.new-by.ensures c.args.arcs.now.arcs; left = search rules; right = search rules; all = search rules }

pub layer_with-requires-clause-other : goal.layer_with-requires-clause-other
layer_with-requires-clause-other c =
    let arcs = c.args.arcs.now.arcs in
    subst (λ o. IfSome o (λ l. HaveFeatures arcs l.geometries)) (sym c.in_ok-other.ensures.tied)
    (tied_has layer_cmp c.in-Some.layer (λ l. HaveFeatures arcs l.geometries) c.loop-layer.others.items c.loop-layer.invariant.right)

pub loop-layer-preserved : goal.loop-layer-preserved
loop-layer-preserved c =
    let arcs = c.args.arcs.now.arcs in
    let was = c.loop-layer.invariant in
    let next = c.in-Some.ensures.steps.0 in
    let others = c.loop-layer.others.items in
    record {
      recorded = c.layer_with.ensures.recorded;
      left = (subst (LayersHaveFeatures arcs) next was.left).1;
      right = subst (LayersHaveFeatures arcs) (sym c.in_ok-other.ensures.others) (all_behind layer_cmp c.in-Some.layer (λ l. HaveFeatures arcs l.geometries) others was.right);
      all = next_united layer_cmp (layers_as_one arcs) c.in-Some.layer c.in_ok-layer_with.field-0 (into_iter_items c.next.new.self) others c.put_layers_before.new.others.items
          c.loop-layer.merged.items c.put_layers_before.new.merged.items c.push.new.self.items (layers_merged arcs c.args.left.items c.args.right.items) c.in_ok-other.ensures.merged
          c.in_ok-other.ensures.others
          (subst (λ o. c.in_ok-layer_with.field-0 ≡ with_other (layers_as_one arcs) c.in-Some.layer o) c.in_ok-other.ensures.tied c.in_ok-layer_with.ensures.both)
          c.in_ok-push.ensures.items
          (subst (λ ls. c.loop-layer.merged.items ++ layers_merged arcs ls others ≡ layers_merged arcs c.args.left.items c.args.right.items) next was.all);
    }
