use Rattle.std.proofs.Common.{◌≡◌, ◌++◌, map}
use Rattle.reading.specs.Plain.{plain}
use Rattle.rounded_maps.specs.Built.{plain_of}
use Rattle.rounded_maps.proofs.building.add_copies.Given as goal

-- the features so far, with those of the other shapes, are all
abbrev pub invariant-loop-shape : goal.invariant-loop-shape
invariant-loop-shape l = map plain l.features.items ++ map (plain_of l.id l.props) l.shape-iterator.rest.items ≡ map plain l.fn.features.items ++ map (plain_of l.id l.props) l.fn.shapes.items
