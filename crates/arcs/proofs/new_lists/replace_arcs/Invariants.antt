use Rattle.std.proofs.Common.{◌≡◌, ◌++◌, drop}
use Rattle.theory.specs.Refinement.{replaced}
use Rattle.arcs.proofs.new_lists.replace_arcs.Given as goal

abbrev pub invariant-loop-arc : goal.invariant-loop-arc
invariant-loop-arc g l =
    l.refs.items ++ replaced (g.P.HavePieces.pieces_of l.fn.arcs) (drop l.arc-index l.fn.used) ≡ replaced (g.P.HavePieces.pieces_of l.fn.arcs) l.fn.used
