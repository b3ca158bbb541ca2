use Rattle.std.proofs.Common.{◌≡◌, ◌++◌, ◌∷◌, [], map, ap, sym, ◌∙◌}
use Rattle.arcs.specs.Stored.{stored_of, merged_behind}
use Rattle.arcs.proofs.Merged.{emptied}
use Rattle.arcs.proofs.merging.merged_arcs.Goals as goal

pub loop-piece-preserved : goal.loop-piece-preserved
loop-piece-preserved c =
    c.in_ok-arc_behind.ensures.all (map stored_of c.next.new.self.rest.items)
    ∙ ap (λ w. c.loop-piece.arcs ++ merged_behind c.loop-piece.last (w ∷ map stored_of c.next.new.self.rest.items)) c.of.ensures
    ∙ ap (λ w. c.loop-piece.arcs ++ merged_behind c.loop-piece.last (map stored_of w)) (sym c.in-Some.ensures.steps.0)
    ∙ c.loop-piece.invariant

pub returns : goal.returns
returns c =
    let none : c.loop-piece.piece-iterator.rest.items ≡ [] =
    emptied c.loop-piece.piece-iterator.rest.items (sym c.loop-piece.piece-iterator.rest.ok.0 ∙ c.in-None.ensures.steps.0) in
    c.in_ok-all.ensures
    ∙ ap (λ w. c.loop-piece.arcs ++ merged_behind c.loop-piece.last (map stored_of w)) (sym none)
    ∙ c.loop-piece.invariant
