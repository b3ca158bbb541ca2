use Rattle.std.proofs.Common.{◌≡◌, ◌++◌, sym, subst}
use Rattle.std.specs.Vec.Iter.{into_iter_items}
use Rattle.topo.specs.LayerLaws.Cuts.{merged}
use Rattle.topo.specs.Features.{HasFeature}
use Rattle.topo.specs.GeometryOrder.{HaveFeatures, geometry_cmp}
use Rattle.topo.proofs.LayerLawsLemmas.MergedSteps.{all_behind, next_merged}
use Rattle.refine.proofs.cut.geometries_merged.Goals as goal

pub loop-geometry-preserved : goal.loop-geometry-preserved
loop-geometry-preserved c =
    let arcs = c.args.arcs.now.arcs in
    let was = c.loop-geometry.invariant in
    let next = c.in-Some.ensures.steps.0 in
    let others = c.loop-geometry.others.items in
    record {
      left = (subst (HaveFeatures arcs) next was.left).1;
      right = subst (HaveFeatures arcs) (sym c.in_ok-put_before.ensures.others) (all_behind (geometry_cmp arcs) c.in-Some.geometry (HasFeature arcs) others was.right);
      recorded = c.put_before.ensures.recorded;
      all = next_merged (geometry_cmp arcs) c.in-Some.geometry (into_iter_items c.next.new.self) others c.put_before.new.others.items c.loop-geometry.merged.items
          c.put_before.new.merged.items c.push.new.self.items (merged (geometry_cmp arcs) c.args.left.items c.args.right.items) c.in_ok-put_before.ensures.merged
          c.in_ok-put_before.ensures.others c.in_ok-push.ensures.items
          (subst (λ gs. c.loop-geometry.merged.items ++ merged (geometry_cmp arcs) gs others ≡ merged (geometry_cmp arcs) c.args.left.items c.args.right.items) next was.all);
    }
