use Rattle.std.proofs.Common.{◌≡◌, true, false, sym, ap, ◌∙◌, subst}
use Rattle.std.specs.Prelude.{Vec}
use Rattle.std.specs.BTreeMap.{get, is_at}
use Rattle.std.specs.declared.alloc.Global.{Global}
use Rattle.grid.specs.declared.pos.Pos.{Pos}
use Rattle.lines.specs.Turned.{position_cmp}
use Rattle.snapping.specs.NearlyShared.Joined.{positions_in}
use Rattle.snapping.specs.NearlyShared.Rest.{all_within, moved_to}
use Rattle.snapping.proofs.NearlySharedLemmas.Clustering.{ClusteredSoFar, clustered_all, clustered_first, clustered_narrow, clustered_wide}
use Rattle.snapping.proofs.NearlySharedLemmas.Tables.{empty_none}
use Rattle.snapping.proofs.nearly_shared.clusters.clusters_of.Goals as goal
use Rattle.snapping.proofs.nearly_shared.clusters.clusters_of.Goals.{then-is_narrow+in_ok-move_all, else-is_narrow+in_ok-push}

pub loop-first-init : goal.loop-first-init
loop-first-init c =
    clustered_first c.args.most (positions_in c.args.pairs.now) c.in_ok-left.left c.new-moves.result c.new-wide.result.items
    c.in_ok-left.ensures c.new-moves.ensures.empty c.new-wide.ensures.items

pub loop-first-preserved : goal.loop-first-preserved
loop-first-preserved c =
    let n = c.args.most in
    let pairs = positions_in c.args.pairs.now in
    let first = c.in-Some.first in
    let members = c.in_ok-members.members.items in
    let taken = c.in_ok-members.ensures.taken pairs c.loop-first.left c.loop-first.invariant.rest c.in-Some.ensures.value c.in-Some.ensures.updates in
    elim c.if-is_narrow.branch [
      | then-is_narrow+in_ok-move_all w ↦
          subst (λ (v : Vec Pos Global). ClusteredSoFar n pairs c.take_component.new.left c.if-is_narrow.moves v.items) (sym w.wide-is)
          (clustered_narrow n pairs c.loop-first.left c.take_component.new.left c.loop-first.moves c.if-is_narrow.moves c.loop-first.wide.items first c.in-Some.others members
          c.loop-first.invariant c.in-Some.ensures.value c.in-Some.ensures.least taken (ap (all_within n first) (sym c.deref.ensures.value) ∙ sym w.if-is_narrow.ensures)
          (λ q. ap (λ m. get position_cmp m q) w.moves-is ∙ w.in_ok-move_all.ensures q
          ∙ ap (λ l. moved_to first l q (get position_cmp c.loop-first.moves q)) w.deref-then-is_narrow.ensures.value))
      | else-is_narrow+in_ok-push w ↦
          subst (λ m. ClusteredSoFar n pairs c.take_component.new.left m c.if-is_narrow.wide.items) (sym w.moves-is)
          (clustered_wide n pairs c.loop-first.left c.take_component.new.left c.loop-first.moves c.loop-first.wide.items c.if-is_narrow.wide.items first c.in-Some.others members
          c.loop-first.invariant c.in-Some.ensures.value c.in-Some.ensures.least taken (ap (all_within n first) (sym c.deref.ensures.value) ∙ sym w.if-is_narrow.ensures)
          (ap (λ (v : Vec Pos Global). v.items) w.wide-is ∙ w.in_ok-push.ensures.items))
    ]

pub returns : goal.returns
returns c =
    clustered_all c.args.most (positions_in c.args.pairs.now) c.loop-first.left (record { moves = c.loop-first.moves; wide = c.loop-first.wide }) c.loop-first.invariant
    (λ q. empty_none (is_at (position_cmp q)) c.loop-first.left.entries (λ h. let k : false ≡ true = c.in_default.ensures.variant.1 h in cc))
