use Rattle.std.proofs.Common.{◌+◌, ◌*◌}
use Rattle.json.specs.Tree.{depth, items_depth}
use Rattle.json.specs.Value.{value_view, items_view}
use Rattle.reading.specs.FaultLists.Found.{pairs_of}
use Rattle.decimal_faults.proofs.Items.{Judged}
use Rattle.decimal_topologies.specs.Geometries.{geometry_faults, parts_of}
use Rattle.decimal_topologies.proofs.geometry.+judging.Given as goal

abbrev pub decreases-judge_geometry : goal.decreases-judge_geometry
decreases-judge_geometry l = 4 * depth (value_view l.value.now) + 3

abbrev pub decreases-judge_content : goal.decreases-judge_content
decreases-judge_content l = 4 * depth (value_view l.value.now) + 2

abbrev pub decreases-judge_collection : goal.decreases-judge_collection
decreases-judge_collection l = 4 * depth (value_view l.value.now) + 1

abbrev pub decreases-judge_geometries : goal.decreases-judge_geometries
decreases-judge_geometries l = 4 * depth (value_view l.value.now) + 1

abbrev pub decreases-judge_each : goal.decreases-judge_each
decreases-judge_each l = 4 * items_depth (items_view l.values.now) + 4

abbrev pub invariant-judge_each-loop-i : goal.invariant-judge_each-loop-i
invariant-judge_each-loop-i l = Judged (geometry_faults (parts_of l.topology) l.fixing) l.values 0 l.i (pairs_of l.found.items)
