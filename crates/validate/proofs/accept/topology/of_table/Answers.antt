use Rattle.std.proofs.Common.{subst}
use Rattle.validate.specs.Accept.Topology.{AreValidInOrder}
use Rattle.validate.proofs.AcceptLemmas.ValidParts.{parts_of_a_map}
use Rattle.validate.proofs.accept.topology.of_table.Goals as goal

pub from_parts-requires : goal.from_parts-requires
from_parts-requires c = parts_of_a_map c.args.table c.args.layers.items c.requires.ids (subst (AreValidInOrder c.args.table) c.deref.ensures.value (c.in_ok-are_valid_in_order.ensures.0 c.if-not-branch.false))
