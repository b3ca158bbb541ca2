use Rattle.std.proofs.Common.{◌≡◌, ◌∙◌, IfSome, ap, subst}
use Rattle.theory.specs.Lists.{gathered}
use Rattle.validate.specs.Accept.Lists.{layers_lines}
use Rattle.validate.specs.ArcEnds.{line_ends}
use Rattle.validate.specs.Noding.{table_read}
use Rattle.validate.proofs.AcceptLemmas.ValidParts.{table_made}
use Rattle.validate.proofs.accept.topology.table_of.Goals as goal

pub returns : goal.returns
returns c =
    let is : c.in-Some.table ≡ table_read c.args.arcs.items c.deref-2.result.now =
    subst (λ o. IfSome o (λ t. t ≡ table_read c.args.arcs.items c.deref-2.result.now)) c.in-Some.is c.in_ok-table.ensures.table in
    is
    ∙ table_made c.args.arcs.items c.deref.result.now c.args.layers.now c.in_ok-ends.ends.items c.in_ok-free.free.items c.deref-2.result.now
    (c.in_ok-ends.ensures.ends ∙ ap (λ w. gathered (line_ends w) (layers_lines c.args.layers.now)) c.as_slice.ensures.value) c.deref.ensures.value c.in_ok-free.ensures.marks c.deref-2.ensures.value
