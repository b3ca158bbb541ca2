use Rattle.std.proofs.Common.{◌≡◌, drop}
use Rattle.split_heal.specs.HealedArcs.{on_along, run_along}
use Rattle.split_heal.proofs.healed_arcs.chain_of.Given as goal

abbrev pub invariant-loop-used : goal.invariant-loop-used
invariant-loop-used l = on_along l.fn.arcs.arcs l.chain.items (drop l.used-index l.others) ≡ run_along l.fn.arcs.arcs l.fn.run
