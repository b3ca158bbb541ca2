use Rattle.std.proofs.Common.{◌↔◌, ◌⊎◌, drop}
use Rattle.grid.specs.declared.pos.Pos.{Pos}
use Rattle.query.specs.Ends.{AmongEnds, OnEnds}
use Rattle.query.proofs.ends.ends_of.Given as goal

abbrev pub invariant-loop-number : goal.invariant-loop-number
invariant-loop-number l =
    (v w : Pos) → (AmongEnds v w l.ends.items ⊎ OnEnds l.fn.arcs.arcs (drop l.number-index l.fn.chosen) v w) ↔ OnEnds l.fn.arcs.arcs l.fn.chosen v w
