use Rattle.std.proofs.Common.{string_bytes}
use Rattle.decimals.proofs.TopologyLemmas.Properties.{name_more}
use Rattle.decimals.proofs.topology.properties.columns_named.Goals as goal

pub loop-name-preserved : goal.loop-name-preserved
loop-name-preserved c =
    name_more c.loop-name.named c.insert.new.self c.args.names.now c.loop-name.name-index _ (string_bytes c.in_ok-from_str.field-0) 0
    c.loop-name-test.true c.in_ok-from_str.ensures.ok c.in_ok-insert.ensures.updates c.loop-name.invariant
