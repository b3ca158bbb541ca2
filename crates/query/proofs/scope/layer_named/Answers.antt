use Rattle.std.proofs.Common.{◌≡◌, rules, subst, tests}
use Rattle.std.proofs.lemmas.Iterator.{YieldsList-from_slice, first_from_find}
use Rattle.shapes.specs.Parts.{spelled_text}
use Rattle.topo.specs.Parts.{LayerParts}
use Rattle.query.proofs.Asked.{Search, search_found, search_none}
use Rattle.query.proofs.scope.layer_named.Goals as goal

pub returns : goal.returns
returns c =
    let Yes = λ (l : LayerParts). spelled_text l.name ≡ c.args.name.now in
    let No = λ (l : LayerParts). ¬ (spelled_text l.name ≡ c.args.name.now) in
    let found : Search Yes No c.args.topology.now.layers c.find.result =
    subst (λ ls. Search Yes No ls c.find.result) c.layers.ensures.layers
    (first_from_find _ _ c.find.result Yes No c.find.ensures.ran (YieldsList-from_slice c.layers.result.now c.iter.ensures.rest) (λ x q k. search (rules, tests)) (λ x q k. search (rules, tests))) in
    record { found = search_found Yes No c.args.topology.now.layers c.find.result found; none = search_none Yes No c.args.topology.now.layers c.find.result found }
