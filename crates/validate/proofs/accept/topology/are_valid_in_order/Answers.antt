use Rattle.chains.specs.OfArcs.{table_as_map}
use Rattle.topo.proofs.GeometryOrderLemmas.NodedTables.{table_noded}
use Rattle.validate.proofs.NodedArcs.{is_table}
use Rattle.validate.proofs.AcceptLemmas.StitchedFeatures.{geometries_have_features}
use Rattle.validate.proofs.accept.topology.are_valid_in_order.Goals as goal

pub in_order-requires : goal.in_order-requires
in_order-requires c =
    let t = c.args.table.now in
    let apart = (c.in_ok-is_noded.ensures c.requires.sorted).0 c.if-not-branch-2.false in
    record {
      noded = table_noded (table_as_map t) t (is_table t apart);
      there = geometries_have_features t c.args.layers.now (record { apart = apart; lists = c.in_ok-lists_are_valid.ensures.0 c.if-not-branch.false }) c.requires.ids;
    }
