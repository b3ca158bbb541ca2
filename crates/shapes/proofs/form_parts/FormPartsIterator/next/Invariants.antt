use Rattle.std.proofs.Common.{◌≡◌, length, None}
use Rattle.shapes.specs.Left.{parts_left}
use Rattle.shapes.proofs.form_parts.FormPartsIterator.next.Given as goal

abbrev pub invariant-loop-part : goal.invariant-loop-part
invariant-loop-part g l = (l.self-inside.first ≡ None) × (parts_left l.self-inside ≡ l.fn.self)

abbrev pub decreases-loop-part : goal.decreases-loop-part
decreases-loop-part g l = length l.self-inside.groups.now
