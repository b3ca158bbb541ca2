use Rattle.std.proofs.Common.{IfSome, subst}
use Rattle.validate.specs.Accept.Laws.{HaveI64}
use Rattle.validate.proofs.AcceptLemmas.Sorted.{ids_stay, sorted_reordered}
use Rattle.texts_tests.proofs.topo_io_tests.other_forms.are_taken.Goals as goal

pub take-requires : goal.take-requires
take-requires c =
    let n = c.in-Some.normalized in
    let ids = subst (λ o. IfSome o (λ a. HaveI64 c.args.layers.now → HaveI64 a.layers.items)) c.in-Some.is c.in_ok-normalized.ensures.ids in
    ids_stay n.layers.items c.in_ok-sorted.sorted.items (sorted_reordered n.arcs.arcs n.layers.items c.in_ok-sorted.sorted.items c.in_ok-sorted.ensures) (ids c.requires)
