use Rattle.std.proofs.Common.{◌≡◌, ◌↔◌, ◌∙◌, ap, subst, IfOk}
use Rattle.validate.specs.Accept.Accepted.{IfWhole, IsWhole}
use Rattle.validate.specs.Accept.Topology as spec
use Rattle.validate.specs.Accept.Topology.{AreValidInOrder}
use Rattle.validate.proofs.accept.topology.take.Goals as goal

pub returns-clause-arcs : goal.returns-clause-arcs
returns-clause-arcs c =
    let is : c.in_ok-table.table ≡ spec.table_of c.args.arcs.items c.args.layers.items =
    c.in_ok-table.ensures ∙ ap (spec.table_of c.args.arcs.items) c.deref-2.ensures.value in
    subst (λ w. IfOk c.of_table.result (λ o. IfWhole o (λ t. t.arcs ≡ w))) is c.of_table.ensures.arcs

pub returns-clause-stand : goal.returns-clause-stand
returns-clause-stand c =
    let is : c.in_ok-table.table ≡ spec.table_of c.args.arcs.items c.args.layers.items =
    c.in_ok-table.ensures ∙ ap (spec.table_of c.args.arcs.items) c.deref-2.ensures.value in
    subst (λ w. IfOk c.of_table.result (λ o. IsWhole o ↔ AreValidInOrder w c.args.layers.items)) is c.of_table.ensures.stand
