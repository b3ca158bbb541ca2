use Rattle.std.proofs.Common.{◌+◌, drop, ap, ◌∙◌}
use Rattle.std.specs.BTreeMap.{get}
use Rattle.lines.specs.Turned.{position_cmp}
use Rattle.lines.proofs.Dropping.{drop_item}
use Rattle.snapping.specs.NearlyShared.Rest.{moved_to}
use Rattle.snapping.proofs.NearlySharedLemmas.Clustering.{apart_is, none_moved, one_moved, same_is}
use Rattle.snapping.proofs.nearly_shared.clusters.move_all.Goals as goal
use Rattle.snapping.proofs.nearly_shared.clusters.move_all.Goals.{then-ne+in_ok-insert, else-ne}

pub loop-member-preserved : goal.loop-member-preserved
loop-member-preserved c = λ q.
    let i = c.loop-member.member-index in
    let members = c.args.members.now in
    let is = drop_item members i c.member-item.result c.loop-member-test.true c.member-item.is in
    elim c.if-ne.branch [
      | then-ne+in_ok-insert w ↦
          ap (λ m. moved_to c.args.first (drop (i + 1) members) q (get position_cmp m q)) w.moves-is
          ∙ one_moved c.loop-member.moves w.insert.new.self c.args.first c.member-item.result q (drop i members) (drop (i + 1) members) is
          (apart_is c.member-item.result c.args.first w.if-ne.ensures) w.in_ok-insert.ensures.updates
          ∙ c.loop-member.invariant q
      | else-ne w ↦
          none_moved c.loop-member.moves c.if-ne.moves c.args.first c.member-item.result q (drop i members) (drop (i + 1) members) is
          (same_is c.member-item.result c.args.first w.if-ne.ensures) w.moves-is ∙ c.loop-member.invariant q
    ]
