use Rattle.std.proofs.Common.{◌≡◌, ◌+◌, ◌≤◌, List, length, Some, None}
use Rattle.std.specs.BTreeMap.{btree_map_len, get, Updates}
use Rattle.grid.specs.declared.pos.Pos.{Pos}
use Rattle.lines.specs.Turned.{position_cmp}
use Rattle.snapping.specs.NearlyShared.Rest.{IsRest, Table}
use Rattle.snapping.proofs.NearlySharedLemmas.Components.{Taking}
use Rattle.snapping.proofs.NearlySharedLemmas.Tables.{listed_in}
use Rattle.snapping.proofs.nearly_shared.component.take_component.Given as goal

abbrev pub invariant-loop-position : goal.invariant-loop-position
invariant-loop-position l = record {
  taking : (pairs : List (Pos × Pos)) (whole : Table) → IsRest pairs whole → get position_cmp whole l.fn.first ≡ Some l.fn.others →
      Updates position_cmp whole l.fn.left l.fn.first None → Taking pairs whole l.left l.fn.first l.members.items l.waiting.items;
  fewer : btree_map_len l.left ≤ btree_map_len l.fn.left;
}

abbrev pub decreases-loop-position : goal.decreases-loop-position
decreases-loop-position l = listed_in l.left.entries + length l.waiting.items
