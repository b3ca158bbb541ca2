use Rattle.std.proofs.Common.{◌≡◌, ◌++◌, drop}
use Rattle.query.specs.ByProperty.{class_uses}
use Rattle.query.specs.EachOnce.{borrowed}
use Rattle.query.proofs.users.uses_by_class.Given as goal

abbrev pub invariant-loop-index : goal.invariant-loop-index
invariant-loop-index l =
    l.uses.items ++ class_uses (drop l.index l.fn.classes) (borrowed (drop l.index l.fn.geometries)) ≡ class_uses l.fn.classes (borrowed l.fn.geometries)
