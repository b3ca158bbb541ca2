use Rattle.std.proofs.Common.{[], ap, length, replicate, subst, sym, ◌∙◌}
use Rattle.std.proofs.lemmas.List.{length-map}
use Rattle.theory.specs.Arcs.{AreSortedOnce}
use Rattle.query.specs.ArcUsers.{AreUsersOf, with_indexes}
use Rattle.query.specs.EachOnce.{borrowed}
use Rattle.query.specs.Uses.{use_cmp}
use Rattle.query.specs.contracts.uses.UsePartialEq.TheImpl as use_eq
use Rattle.query.proofs.IndexLists.{lists_means}
use Rattle.query.proofs.Orders.{use_total, use_same, use_ties}
use Rattle.query.proofs.SortedOnce.{sorted_once}
use Rattle.query.proofs.questions.neighbors.lists_by.Goals as goal

pub returns : goal.returns
returns c =
    let classes = c.args.classes.now in
    let uses = c.dedup.new.self.items in
    let users = c.in_ok-users.users.items in
    let once = sorted_once use_cmp use_total use_same use_eq.eq-value.it use_ties _ _ _ c.sort_unstable.ensures.permutation c.sort_unstable.ensures.sorted c.dedup.ensures.filtered in
    lists_means (borrowed c.args.geometries.now) classes uses users (subst (λ w. AreSortedOnce use_cmp w uses) c.in_ok-uses.ensures once)
    (subst (λ w. AreUsersOf classes w users) c.deref.ensures.value c.in_ok-users.ensures.users) _
    (c.in_ok-lists_of.ensures
    ∙ ap (λ w. with_indexes classes w (replicate (length c.args.geometries.now) []) c.deref-2.result.now) c.deref-3.ensures.value
    ∙ ap (with_indexes classes users (replicate (length c.args.geometries.now) [])) c.deref-2.ensures.value
    ∙ ap (λ n. with_indexes classes users (replicate n []) uses) (sym (length-map c.args.geometries.now (λ g. g.now))))
