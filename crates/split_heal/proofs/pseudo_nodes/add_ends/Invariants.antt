use Rattle.std.proofs.Common.{◌≡◌, ◌++◌, drop}
use Rattle.split_heal.specs.PseudoNodes.{ends_from}
use Rattle.split_heal.proofs.pseudo_nodes.add_ends.Given as goal

abbrev pub invariant-loop-number : goal.invariant-loop-number
invariant-loop-number l =
    l.ends.items ++ ends_from l.fn.arcs.arcs l.fn.reversed (drop l.number-index l.fn.chosen) ≡ l.fn.ends.items ++ ends_from l.fn.arcs.arcs l.fn.reversed l.fn.chosen
