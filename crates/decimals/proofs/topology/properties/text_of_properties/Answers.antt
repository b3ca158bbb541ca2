use Rattle.std.proofs.Common.{◌∙◌, sym}
use Rattle.lines.proofs.Codes.{empty}
use Rattle.decimals.proofs.TopologyLemmas.Properties.{no_entries, none_back}
use Rattle.decimals.proofs.topology.properties.text_of_properties.Goals as goal

pub returns-then-is_empty-2 : goal.returns-then-is_empty-2
returns-then-is_empty-2 c =
    let unscaled = no_entries c.args.scales.now (empty _ c.if-is_empty-2.ensures) in
    c.in_ok-from_str.ensures.ok ∙ c.text.ensures ∙ sym (none_back c.args.numbers.now c.args.scales.now c.args.props.now (c.if-is_empty.ensures.0 cc) unscaled)
