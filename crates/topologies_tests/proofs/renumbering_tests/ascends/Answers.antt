use Rattle.std.proofs.Common.{subst, sym}
use Rattle.topo.proofs.GeometryOrderLemmas.NodedTables.{table_noded}
use Rattle.topo.specs.GeometryOrder.Noded.{AreNoded}
use Rattle.topo.proofs.Stitched.{geometries_of}
use Rattle.topo.specs.GeometryOrder.{HaveFeatures}
use Rattle.topologies_tests.proofs.Features.{have_all}
use Rattle.topologies_tests.proofs.renumbering_tests.ascends.Goals as goal

pub all_ascend-requires : goal.all_ascend-requires
all_ascend-requires c =
    let (m, h) = c.arcs.ensures.of_map in
    let t = c.args.topology.now in
    record {
      noded = subst (λ a. AreNoded a.arcs) (sym c.arcs.ensures.arcs) (table_noded _ t.arcs h.table);
      there = subst (λ a. HaveFeatures a.arcs c.in-Some.geometries.now) (sym c.arcs.ensures.arcs)
          (have_all t.arcs.arcs _ c.in-Some.geometries.now (geometries_of m t _ c.in-Some.geometries.now h c.in-Some.ensures.found));
    }
