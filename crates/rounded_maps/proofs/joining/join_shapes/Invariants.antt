use Rattle.std.proofs.Common.{◌++◌, List}
use Rattle.faults.specs.declared.fault.FaultKind.{FaultKind}
use Rattle.fixing.specs.declared.rules.Fixes.{Fixes}
use Rattle.shapes.specs.Shapes.{Shape}
use Rattle.snapping.specs.NearlyShared.Joined.{target_in}
use Rattle.rounded_maps.specs.Joined.{AreJoinedShapes}
use Rattle.rounded_maps.specs.Unjoined.{HasRefusedShape}
use Rattle.rounded_maps.proofs.joining.join_shapes.Given as goal

-- what was joined so far, with what becomes of the others, is what becomes of all
abbrev pub invariant-loop-shape : goal.invariant-loop-shape
invariant-loop-shape l = record {
  joined : (more : List Shape) (after : Fixes) → AreJoinedShapes l.rules (target_in l.clusters) l.shape-iterator.rest.items more l.fixes after
      → AreJoinedShapes l.rules (target_in l.clusters) l.fn.shapes.items (l.joined.items ++ more) l.fn.fixes after;
  refused : (kind : FaultKind) → HasRefusedShape l.rules (target_in l.clusters) l.shape-iterator.rest.items kind → HasRefusedShape l.rules (target_in l.clusters) l.fn.shapes.items kind;
}
