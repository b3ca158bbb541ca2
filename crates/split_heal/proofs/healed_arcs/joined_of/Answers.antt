use Rattle.std.proofs.Common.{◌≡◌, ◌++◌, ◌∙◌, [], ap, map, sym}
use Rattle.std.proofs.lemmas.List.{append-nil}
use Rattle.arcs.proofs.Merged.{emptied}
use Rattle.split_heal.specs.HealedArcs.{list_of_run, piece_of_run}
use Rattle.split_heal.specs.PseudoNodes.{partner_in}
use Rattle.split_heal.proofs.healed_arcs.joined_of.Goals as goal

pub returns-clause-pieces : goal.returns-clause-pieces
returns-clause-pieces c =
    let none : c.loop-run.run-iterator.rest.items ≡ [] = emptied c.loop-run.run-iterator.rest.items (sym c.loop-run.run-iterator.rest.ok.0 ∙ c.in-None.ensures.steps.0) in
    sym (append-nil c.loop-run.joined.pieces.items)
    ∙ ap (λ w. c.loop-run.joined.pieces.items ++ map (piece_of_run c.args.arcs.now.arcs (partner_in c.args.meeting.now)) w) (sym none) ∙ c.loop-run.invariant.pieces

pub returns-clause-lists : goal.returns-clause-lists
returns-clause-lists c =
    let none : c.loop-run.run-iterator.rest.items ≡ [] = emptied c.loop-run.run-iterator.rest.items (sym c.loop-run.run-iterator.rest.ok.0 ∙ c.in-None.ensures.steps.0) in
    sym (append-nil c.loop-run.joined.lists.items)
    ∙ ap (λ w. c.loop-run.joined.lists.items ++ map (list_of_run c.args.arcs.now.arcs (partner_in c.args.meeting.now)) w) (sym none) ∙ c.loop-run.invariant.lists
