-- One of those that are left has no id exactly if one of all has none.
use Rattle.std.proofs.Common.{◌≡◌, length}
use Rattle.c_calls.specs.Options.{lacks_id}
use Rattle.c_calls.proofs.options.is_id_missing.Given as goal

abbrev pub invariant-loop-geometry : goal.invariant-loop-geometry
invariant-loop-geometry l = lacks_id l.left ≡ lacks_id l.geometries

abbrev pub decreases-loop-geometry : goal.decreases-loop-geometry
decreases-loop-geometry l = length l.left
