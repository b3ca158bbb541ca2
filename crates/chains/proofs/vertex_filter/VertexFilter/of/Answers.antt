use Rattle.std.proofs.Common.{◌∙◌, ◌++◌, ap, subst, sym}
use Rattle.theory.proofs.ListsOfLists.{Has-gathered}
use Rattle.theory.proofs.Turning.{has_keep}
use Rattle.theory.specs.TopologyFunction.{keep}
use Rattle.theory.specs.Lists.{Has, gathered}
use Rattle.lines.specs.PositionFilter.{may_hold}
use Rattle.arcs.specs.Extents.{within}
use Rattle.arcs.proofs.Extents.{both_true}
use Rattle.chains.proofs.vertex_filter.VertexFilter.of.Goals as goal

pub returns-clause-common : goal.returns-clause-common
returns-clause-common c = λ arc h p k own other.
    both_true (within c.args.extent p) (may_hold c.in_ok-bits.bits p) own
    (c.in_ok-bits.ensures p (subst (Has p) (sym (c.deref.ensures.value ∙ c.in_ok-near.ensures.list ∙ ap (λ w. w ++ gathered (keep (within c.args.other.now)) c.args.table.now.arcs) c.new-list.ensures.items))
    (Has-gathered (keep (within c.args.other.now)) c.args.table.now.arcs arc p h (has_keep (within c.args.other.now) arc p k other))))
