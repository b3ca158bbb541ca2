use Rattle.std.proofs.Common.{◌+◌, ◌*◌}
use Rattle.json.specs.Tree.{depth, items_depth}
use Rattle.json.specs.Value.{value_view, items_view}
use Rattle.decimal_topologies.specs.Geometries.{parts_of}
use Rattle.decimal_topologies.proofs.Nested.{Shaped}
use Rattle.decimal_topologies.proofs.geometry.+making.Given as goal

abbrev pub decreases-put_shapes : goal.decreases-put_shapes
decreases-put_shapes l = 3 * depth (value_view l.value.now) + 2

abbrev pub decreases-put_collection : goal.decreases-put_collection
decreases-put_collection l = 3 * depth (value_view l.value.now) + 1

abbrev pub decreases-put_each : goal.decreases-put_each
decreases-put_each l = 3 * items_depth (items_view l.values.now) + 3

abbrev pub invariant-put_each-loop-i : goal.invariant-put_each-loop-i
invariant-put_each-loop-i l = Shaped (parts_of l.topology) l.values l.i l.initial.found.items l.found.items l.initial.tally l.tally
