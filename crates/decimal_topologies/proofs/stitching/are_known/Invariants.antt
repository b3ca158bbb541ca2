use Rattle.std.proofs.Common.{◌≡◌, drop}
use Rattle.json.specs.Value.{items_view}
use Rattle.decimal_arcs.specs.Seen.{seen_arcs}
use Rattle.decimal_topologies.specs.Stitching.{are_known}
use Rattle.decimal_topologies.proofs.stitching.are_known.Given as goal

abbrev pub invariant-loop-i : goal.invariant-loop-i
invariant-loop-i l = are_known (seen_arcs l.arcs) (items_view (drop l.i l.values)) ≡ are_known (seen_arcs l.arcs) (items_view l.values)
