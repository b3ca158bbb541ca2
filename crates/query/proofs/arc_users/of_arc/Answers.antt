use Rattle.std.proofs.Common.{rules, ◌∙◌}
use Rattle.std.proofs.lemmas.List.Sorted.{IsPartitionPoint-from_clause}
use Rattle.std.proofs.Math.Dec.{leb, ltb}
use Rattle.query.specs.declared.arc_users.ArcUser.{ArcUser}
use Rattle.query.proofs.ArcUsers.{between_places}
use Rattle.query.proofs.arc_users.of_arc.Goals as goal

pub returns : goal.returns
returns c =
    c.split_at-2.ensures.front
    ∙ between_places (λ (u : ArcUser). u.arc) c.args.arc c.partition_point.result c.partition_point-2.result c.args.users.now c.split_at.result.1.now
    c.requires.by_arc c.split_at.ensures.back
    (λ h. IsPartitionPoint-from_clause (λ (u : ArcUser). ltb u.arc c.args.arc) _ _ c.partition_point.ensures.partitioned h (λ a r f' k. search rules))
    (λ h. IsPartitionPoint-from_clause (λ (u : ArcUser). leb u.arc c.args.arc) _ _ c.partition_point-2.ensures.partitioned h (λ a r f' k. search rules))
