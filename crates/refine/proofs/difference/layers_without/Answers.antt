use Rattle.std.proofs.Common.{◌≡◌, ◌∙◌, IfOk, map, subst}
use Rattle.shapes.specs.Maps.{Layers}
use Rattle.topo.specs.OfMap.{IsOf}
use Rattle.topo.specs.LayerLaws.Leaving.{layer_less}
use Rattle.refine.specs.Borrowed.{all_borrowed}
use Rattle.refine.proofs.difference.layers_without.Goals as goal

pub layers_less-requires : goal.layers_less-requires
layers_less-requires c = c.in_ok-share.ensures ∙ c.arcs.ensures.arcs

pub returns-clause-left : goal.returns-clause-left
returns-clause-left c =
    let t = c.args.topology.now in
    subst (λ s. IfOk c.layers_less.result (λ v. (m n : Layers) → IsOf m t → IsOf n s → all_borrowed v.items ≡ map (layer_less t.arcs.arcs n) t.layers)) c.in_ok-removed.ensures
    c.layers_less.ensures.left
