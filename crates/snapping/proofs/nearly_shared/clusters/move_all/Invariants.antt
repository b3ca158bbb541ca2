use Rattle.std.proofs.Common.{◌≡◌, drop}
use Rattle.std.specs.BTreeMap.{get}
use Rattle.grid.specs.declared.pos.Pos.{Pos}
use Rattle.lines.specs.Turned.{position_cmp}
use Rattle.snapping.specs.NearlyShared.Rest.{moved_to}
use Rattle.snapping.proofs.nearly_shared.clusters.move_all.Given as goal

abbrev pub invariant-loop-member : goal.invariant-loop-member
invariant-loop-member l = (q : Pos) →
    moved_to l.first (drop l.member-index l.members) q (get position_cmp l.moves q) ≡ moved_to l.first l.members q (get position_cmp l.fn.moves q)
