use Rattle.std.proofs.Common.{subst, sym}
use Rattle.topo.specs.Features.{HasFeature}
use Rattle.topo.proofs.LayerLawsLemmas.Passing.{at_place}
use Rattle.refine.proofs.remove.remaining_geometries.Goals as goal

pub is_next-requires : goal.is_next-requires
is_next-requires c = record {
  there = subst (HasFeature c.args.topology.now.arcs.arcs) (sym c.geometry-item.is)
      (at_place (HasFeature c.args.topology.now.arcs.arcs) c.args.geometries.now c.loop-geometry.geometry-index c.geometry-item.result c.requires.there c.loop-geometry-test.true);
}
