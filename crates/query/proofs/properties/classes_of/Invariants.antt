use Rattle.std.specs.BTreeMap.{get_by_text}
use Rattle.query.specs.ByProperty.{values_of}
use Rattle.query.specs.EachOnce.{borrowed}
use Rattle.query.proofs.Classes.{Classed}
use Rattle.query.proofs.properties.classes_of.Given as goal

abbrev pub invariant-loop-index : goal.invariant-loop-index
invariant-loop-index l = Classed (values_of l.fn.property (borrowed l.fn.geometries)) l.index (get_by_text l.known) l.classes.items
