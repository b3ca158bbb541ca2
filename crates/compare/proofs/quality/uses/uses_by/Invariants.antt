use Rattle.std.proofs.Common.{◌≡◌, ◌++◌, drop}
use Rattle.compare.specs.Quality.Uses.{geometries_uses, borrowed}
use Rattle.compare.proofs.quality.uses.uses_by.Given as goal

abbrev pub invariant-loop-number : goal.invariant-loop-number
invariant-loop-number l =
    l.uses.items ++ geometries_uses l.fn.topology.arcs.arcs l.number (borrowed (drop l.number l.fn.geometries))
    ≡ geometries_uses l.fn.topology.arcs.arcs 0 (borrowed l.fn.geometries)
