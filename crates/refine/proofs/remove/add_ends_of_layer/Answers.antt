use Rattle.std.proofs.Common.{◌++◌, map, refl}
use Rattle.theory.specs.Lists.{gathered}
use Rattle.refine.specs.LeftLists.{body_ends}
use Rattle.topo.proofs.LayerLawsLemmas.LeftEnds.{record_step}
use Rattle.refine.proofs.remove.add_ends_of_layer.Goals as goal

pub loop-geometry-preserved : goal.loop-geometry-preserved
loop-geometry-preserved c =
    let arcs = c.args.topology.now.arcs.arcs in
    record_step (λ gs. gathered (λ g. body_ends arcs g.body) (map (λ g. g.now) gs)) (λ g. body_ends arcs g.now.body) c.deref-geometry-items.result.now
    c.loop-geometry.geometry-index c.geometry-item.result c.loop-geometry.ends.items c.add_ends_of_body.new.ends.items
    (c.args.ends.now.items ++ gathered (λ g. body_ends arcs g.body) (map (λ g. g.now) c.args.layer.now.geometries.items))
    (λ g rest. refl) c.loop-geometry-test.true c.geometry-item.is c.in_ok-add_ends_of_body.ensures c.loop-geometry.invariant
