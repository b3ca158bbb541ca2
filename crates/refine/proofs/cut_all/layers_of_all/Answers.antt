use Rattle.std.proofs.Common.{◌≡◌, ◌∙◌, ◌∷◌, [], ap, arith, length, subst, sym}
use Rattle.std.proofs.lemmas.List.{map-append}
use Rattle.merging.specs.Plans.{union_all}
use Rattle.refine.specs.ManyLayers.{AreLayersOf, layers_in}
use Rattle.refine.proofs.ManyParts.{all_left, first_has, last_left, no_items, none_left, second_has, two_merged}
use Rattle.refine.proofs.cut_all.layers_of_all.Goals as goal

pub rounds-init : goal.rounds-init
rounds-init c = λ u maps h. all_left u c.args.arcs.now.arcs maps (layers_in c.args.lists.items) h

pub layers_of_both-requires : goal.layers_of_both-requires
layers_of_both-requires c =
    let (u, maps, h) = c.requires.maps in
    let left = layers_in c.rounds.left.items in
    let rest = layers_in c.pop_front-in-Some.new.self.items in
    let split = ap layers_in (c.in-Some.ensures.items ∙ ap (λ w. c.in-Some.first ∷ w) c.in-Some-pop_front.ensures.items) in
    record {
      noded = c.requires.noded;
      left = first_has u c.args.arcs.now.arcs maps left c.in-Some.first.items (c.in-Some-pop_front.second.items ∷ rest) (c.rounds.invariant u maps h) split;
      right = second_has u c.args.arcs.now.arcs maps left c.in-Some.first.items c.in-Some-pop_front.second.items rest (c.rounds.invariant u maps h) split;
    }

pub rounds-preserved : goal.rounds-preserved
rounds-preserved c = λ u maps h.
    let left = layers_in c.rounds.left.items in
    let rest = c.pop_front-in-Some.new.self.items in
    let split = ap layers_in (c.in-Some.ensures.items ∙ ap (λ w. c.in-Some.first ∷ w) c.in-Some-pop_front.ensures.items) in
    two_merged u c.args.arcs.now.arcs maps left c.in-Some.first.items c.in-Some-pop_front.second.items (layers_in rest) (layers_in c.push_back.new.self.items)
    c.in_ok-layers_of_both.field-0.items (c.rounds.invariant u maps h) split c.in_ok-layers_of_both.ensures
    (ap layers_in c.in_ok-push_back.ensures.items ∙ map-append _ rest (c.in_ok-layers_of_both.field-0 ∷ []))

pub returns-in_default-pop_front : goal.returns-in_default-pop_front
returns-in_default-pop_front c = λ u maps h.
    let rest = c.pop_front.new.self.items in
    let none : length rest ≡ 0 = omega (arith, c.in_default-pop_front.ensures.cases.0, c.in-Some.ensures.cases, c.rounds.left.ok.0, ap length c.in-Some.ensures.items) in
    last_left u c.args.arcs.now.arcs maps (layers_in c.rounds.left.items) c.in-Some.first.items (c.rounds.invariant u maps h)
    (ap layers_in (c.in-Some.ensures.items ∙ ap (λ w. c.in-Some.first ∷ w) (no_items rest none)))

pub returns : goal.returns
returns c = λ u maps h.
    let none : length c.rounds.left.items ≡ 0 = omega (arith, c.in_default.ensures.cases.0, c.rounds.left.ok.0) in
    subst (AreLayersOf u c.args.arcs.now.arcs (union_all maps)) (sym c.new.ensures.items)
    (none_left u c.args.arcs.now.arcs maps (layers_in c.rounds.left.items) (c.rounds.invariant u maps h) (ap layers_in (no_items c.rounds.left.items none)))
