use Rattle.std.proofs.Common.{ap, sym, ◌∙◌}
use Rattle.topo.proofs.OfParts.{same_parts}
use Rattle.topo.proofs.topology.Topology.over.Goals as goal

pub invariant_of-result : goal.invariant_of-result
invariant_of-result c =
    same_parts c.self.inside.grid c.self.inside.arcs c.args.arcs c.self.inside.layers c.from_vec.result c.self.inside.bbox c.self.invariant
    (ap (λ t. t.arcs) c.self.view_is ∙ sym c.requires)
    (ap (λ t. t.layers) c.self.view_is ∙ sym c.layers.ensures.layers ∙ sym c.in_ok-layers.ensures ∙ sym c.from_vec.ensures)
