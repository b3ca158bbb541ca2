use Rattle.std.proofs.Common.{◌++◌, drop, List}
use Rattle.grid.specs.declared.pos.Pos.{Pos}
use Rattle.chains.specs.Repeats.{AreMet}
use Rattle.chains.proofs.repeats.Repeats.add_vertices.Given as goal

abbrev pub invariant-loop-vertex : goal.invariant-loop-vertex
invariant-loop-vertex l = (all later : List Pos) → AreMet l.fn.self all (l.fn.vertices ++ later) → AreMet l.self all (drop l.vertex-index l.fn.vertices ++ later)
