-- The names so far were seen, and one of those that are left comes again exactly if one of all does.
use Rattle.noshinka.proofs.Keying.{Looking}
use Rattle.noshinka.proofs.keys.has_key_twice.Given as goal

abbrev pub invariant-loop-geometry : goal.invariant-loop-geometry
invariant-loop-geometry l = Looking l.seen l.geometry-index l.fn.geometries
