use Rattle.std.proofs.Common.{◌≡◌, ◌+◌, drop}
use Rattle.lines.specs.ByVertex.{count_at}
use Rattle.split_heal.specs.PseudoNodes.{vertex_of}
use Rattle.split_heal.proofs.pseudo_nodes.count_of.Given as goal

abbrev pub invariant-loop-i : goal.invariant-loop-i
invariant-loop-i l = l.i + count_at vertex_of l.fn.vertex (drop l.i l.fn.ends) ≡ count_at vertex_of l.fn.vertex l.fn.ends
