use Rattle.std.proofs.Common.{◌≡◌, ◌∙◌, [], ap, sym}
use Rattle.arcs.proofs.Merged.{emptied}
use Rattle.split_heal.specs.HealedArcs.{put_all}
use Rattle.split_heal.proofs.Heals.{put_none}
use Rattle.split_heal.proofs.healed_arcs.by_numbers.Goals as goal

pub returns : goal.returns
returns c =
    let none : c.loop-list.list-iterator.rest.items ≡ [] = emptied c.loop-list.list-iterator.rest.items (sym c.loop-list.list-iterator.rest.ok.0 ∙ c.in-None.ensures.steps.0) in
    sym (put_none c.loop-list.left.now c.loop-list.placed.items) ∙ ap (λ w. put_all c.loop-list.left.now w c.loop-list.placed.items) (sym none) ∙ c.loop-list.invariant
