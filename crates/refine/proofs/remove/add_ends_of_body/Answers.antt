use Rattle.std.proofs.Common.{◌++◌, append_assoc, ap, sym, ◌∙◌}
use Rattle.theory.specs.Lists.{gathered}
use Rattle.topo.specs.LayerLaws.LeftLists.{line_ends}
use Rattle.refine.proofs.remove.add_ends_of_body.Goals as goal

pub loop-used-preserved : goal.loop-used-preserved
loop-used-preserved c =
    let f = line_ends c.args.topology.now.arcs.arcs in
    ap (λ w. w ++ gathered f c.next.new.self) (c.in_ok-add_ends_of_line.ensures ∙ ap (λ us. c.loop-used.ends.items ++ f us) c.as_slice.ensures)
    ∙ append_assoc c.loop-used.ends.items (f c.in-Some.used.now) (gathered f c.next.new.self)
    ∙ ap (λ ls. c.loop-used.ends.items ++ gathered f ls) (sym c.in-Some.ensures.steps)
    ∙ c.loop-used.invariant
