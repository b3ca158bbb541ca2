use Rattle.std.proofs.Common.{◌≡◌, ◌++◌}
use Rattle.rounded_maps.proofs.joining.add_shapes.Given as goal

abbrev pub invariant-loop-shape : goal.invariant-loop-shape
invariant-loop-shape l = l.shapes.items ++ l.shape-iterator.rest.items ≡ l.fn.shapes.items ++ l.fn.others.items
