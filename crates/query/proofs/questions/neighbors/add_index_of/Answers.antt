use Rattle.std.proofs.Common.{ap, map, rules, subst, sym, take, ◌++◌, ◌==◌, ◌∙◌}
use Rattle.std.specs.List.Sorted.{IsNonDecreasingBy}
use Rattle.std.specs.Prelude.{filter, not}
use Rattle.std.proofs.lemmas.List.Sorted.{IsPartitionPoint-from_clause}
use Rattle.std.proofs.Math.Dec.{leb, ltb}
use Rattle.query.specs.ArcUsers.{with_index_in}
use Rattle.query.specs.declared.arc_users.ArcUser.{ArcUser}
use Rattle.query.proofs.ArcUsers.{beside_places}
use Rattle.query.proofs.IndexLists.{index_in_both}
use Rattle.query.proofs.questions.neighbors.add_index_of.Goals as goal

pub returns : goal.returns
returns c =
    let here = c.of_arc-here.result.now in
    let class = c.args.user.class in
    let index = c.args.user.index in
    let behind = c.split_at-2.result.1.now in
    let old = map (λ l. l.items) c.args.lists.now.items in
    c.in_ok-add_to_lists-2.ensures
    ∙ ap (λ w. with_index_in index w behind) c.in_ok-add_to_lists.ensures
    ∙ index_in_both index old c.split_at.result.0.now behind
    ∙ ap (with_index_in index old)
    (ap (λ l. l ++ behind) c.split_at.ensures.front
    ∙ ap (λ l. take c.partition_point.result here ++ l) c.split_at-2.ensures.back
    ∙ beside_places (λ (u : ArcUser). u.class) class c.partition_point.result c.partition_point-2.result here c.split_at.result.1.now
    (subst (IsNonDecreasingBy (λ (u : ArcUser). u.class)) (sym c.of_arc-here.ensures) (c.requires.by_class c.args.user.arc)) c.split_at.ensures.back
    (λ h. IsPartitionPoint-from_clause (λ (u : ArcUser). ltb u.class class) _ _ c.partition_point.ensures.partitioned h (λ a r f' k. search rules))
    (λ h. IsPartitionPoint-from_clause (λ (u : ArcUser). leb u.class class) _ _ c.partition_point-2.ensures.partitioned h (λ a r f' k. search rules))
    ∙ ap (filter (λ u. not (u.class == class))) c.of_arc-here.ensures)
