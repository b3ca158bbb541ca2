use Rattle.std.proofs.Common.{◌≡◌, ◌++◌, ◌+◌, ◌∙◌, ◌∷◌, [], List, ap, append_assoc, arith, length, map, sym}
use Rattle.std.proofs.lemmas.List.{map-append}
use Rattle.split_heal.specs.PartsOfAll.{of_table}
use Rattle.topo.specs.LayerLaws.CutLayers.{layer_recut}
use Rattle.topo.specs.Parts.{LayerParts}
use Rattle.refine.specs.ManyLayers.{layers_in, layers_recut_from}
use Rattle.refine.proofs.cut_all.layers_by_new_arcs.Goals as goal

pub loop-layers-preserved : goal.loop-layers-preserved
loop-layers-preserved c =
    let r = c.args.recut.now in
    let n = c.loop-layers.table in
    let made = c.loop-layers.rewritten.items in
    let layers = c.in-Some.layers.items in
    let steps = c.in-Some.ensures.steps.0 in
    let rest = layers_recut_from r (n + 1) (layers_in c.next.new.self.rest.items) in
    let recut : List LayerParts = map (layer_recut r.arcs.arcs (of_table n r)) layers in
    let by_lists : c.in_ok-layers_rewritten.field-0.items ≡ recut =
    c.in_ok-layers_rewritten.ensures
    ∙ (λ i. map (layer_recut (c.lists.ensures.recut i).arcs.arcs (of_table (c.lists.ensures.table i) (c.lists.ensures.recut i))) layers) in
    record {
      left = omega (arith, ap length steps, c.loop-layers.invariant.left);
      lists =
          ap (λ w. layers_in w ++ rest) c.in_ok-push_back.ensures.items
          ∙ ap (λ w. w ++ rest) (map-append _ made (c.in_ok-layers_rewritten.field-0 ∷ []) ∙ ap (λ w. layers_in made ++ (w ∷ [])) by_lists)
          ∙ append_assoc (layers_in made) (recut ∷ []) rest
          ∙ ap (λ w. layers_in made ++ layers_recut_from r n (layers_in w)) (sym steps)
          ∙ c.loop-layers.invariant.lists;
    }
