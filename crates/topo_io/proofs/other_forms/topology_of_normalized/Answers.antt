use Rattle.std.proofs.Common.{IfSome, sym, subst}
use Rattle.validate.specs.Accept.Kept.{KeepLayers}
use Rattle.validate.specs.Accept.Laws.{HaveI64}
use Rattle.validate.proofs.AcceptLemmas.Sorted.{ids_stay, sorted_reordered}
use Rattle.topo_io.proofs.AnyOrder.{normalized_over}
use Rattle.topo_io.proofs.other_forms.topology_of_normalized.Goals as goal

pub take-requires : goal.take-requires
take-requires c =
    let n = c.in-Some.normalized in
    let ids = subst (λ o. IfSome o (λ a. HaveI64 c.args.layers.now → HaveI64 a.layers.items)) c.in-Some.is c.in_ok-normalized.ensures.ids in
    ids_stay n.layers.items c.in_ok-sorted.sorted.items (sorted_reordered n.arcs.arcs n.layers.items c.in_ok-sorted.sorted.items c.in_ok-sorted.ensures) (ids c.requires)

pub returns-in-Whole-clause-means : goal.returns-in-Whole-clause-means
returns-in-Whole-clause-means c =
    let n = c.in-Some.normalized in
    let kept = subst (λ o. IfSome o (λ a. KeepLayers c.args.arcs.now a.arcs.arcs c.args.layers.now a.layers.items)) c.in-Some.is c.in_ok-normalized.ensures.kept in
    let ids = subst (λ o. IfSome o (λ a. HaveI64 c.args.layers.now → HaveI64 a.layers.items)) c.in-Some.is c.in_ok-normalized.ensures.ids in
    let moved = sorted_reordered n.arcs.arcs n.layers.items c.in_ok-sorted.sorted.items c.in_ok-sorted.ensures in
    normalized_over c.args.grid c.args.arcs.now c.in_ok-arcs.arcs.items c.args.layers.now n.layers.items c.in_ok-sorted.sorted.items
    (subst (λ w. KeepLayers c.args.arcs.now w c.args.layers.now n.layers.items) (sym c.in_ok-arcs.ensures) kept) moved
    (ids_stay n.layers.items c.in_ok-sorted.sorted.items moved (ids c.requires)) c.in_ok-topology.field-0 c.in-Whole.topology c.in-Whole.is
    c.in_ok-topology.ensures.grid c.in_ok-topology.ensures.arcs c.in_ok-topology.ensures.layers c.in_ok-topology.ensures.stand c.in_ok-topology.ensures.of_map
