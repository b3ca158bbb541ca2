use Rattle.std.proofs.Common.{◌≡◌, ◌++◌, map}
use Rattle.split_heal.specs.HealedArcs.{list_of_run, piece_of_run}
use Rattle.split_heal.specs.PseudoNodes.{partner_in}
use Rattle.split_heal.proofs.healed_arcs.joined_of.Given as goal

abbrev pub invariant-loop-run : goal.invariant-loop-run
invariant-loop-run l = record {
  pieces : l.joined.pieces.items ++ map (piece_of_run l.fn.arcs.arcs (partner_in l.fn.meeting)) l.run-iterator.rest.items
      ≡ map (piece_of_run l.fn.arcs.arcs (partner_in l.fn.meeting)) l.fn.runs.items;
  lists : l.joined.lists.items ++ map (list_of_run l.fn.arcs.arcs (partner_in l.fn.meeting)) l.run-iterator.rest.items
      ≡ map (list_of_run l.fn.arcs.arcs (partner_in l.fn.meeting)) l.fn.runs.items;
}
