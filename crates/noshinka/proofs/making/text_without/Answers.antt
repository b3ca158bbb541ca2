use Rattle.std.proofs.Common.{◌∙◌, ap, refl}
use Rattle.topo.specs.OfMap.{seen_parts}
use Rattle.topo_io.specs.TopologyText.{topology_text}
use Rattle.noshinka.proofs.Removals.{rest_text}
use Rattle.noshinka.proofs.making.text_without.Goals as goal

pub returns-in_ok-text_of-in-Ok-clause-removed : goal.returns-in_ok-text_of-in-Ok-clause-removed
returns-in_ok-text_of-in-Ok-clause-removed c =
    rest_text c.args.topology.now c.args.removed.now c.in-Ok.removal.topology _ (c.if-not-is_on_grid_of.ensures.0 refl) c.in-Ok.ensures.grid c.in-Ok.ensures.of_map
    (c.in_ok-text_of-in-Ok.ensures.text ∙ ap (λ t. topology_text (seen_parts t)) c.topology.ensures)
