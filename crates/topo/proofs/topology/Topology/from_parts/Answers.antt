use Rattle.std.proofs.Common.{◌++◌, sym, ap, ◌∙◌, subst}
use Rattle.theory.specs.Lists.{gathered, joined}
use Rattle.topo.specs.Box.{box_of}
use Rattle.topo.specs.OfMap.{ArePartsOf}
use Rattle.topo.specs.Points.{layer_points}
use Rattle.topo.proofs.OfParts.{of_parts}
use Rattle.topo.proofs.topology.Topology.from_parts.Goals as goal

pub invariant_of-result : goal.invariant_of-result
invariant_of-result c = (
  c.requires.0,
  of_parts c.requires.0 (record { grid = c.args.grid; arcs = c.args.arcs; layers = c.from_vec.result; bbox = c.bounds-bbox.result })
      (subst (ArePartsOf c.requires.0 c.args.arcs) (sym c.from_vec.ensures) c.requires.1)
      (c.bounds-bbox.ensures.corners ∙ ap (λ w. box_of c.args.grid (joined c.args.arcs.arcs ++ gathered layer_points w)) (c.deref.ensures.value ∙ sym c.from_vec.ensures)),
)

pub returns-clause-of_map : goal.returns-clause-of_map
returns-clause-of_map c = λ m h.
    of_parts m (record { grid = c.args.grid; arcs = c.args.arcs; layers = c.from_vec.result; bbox = c.bounds-bbox.result })
    (subst (ArePartsOf m c.args.arcs) (sym c.from_vec.ensures) h)
    (c.bounds-bbox.ensures.corners ∙ ap (λ w. box_of c.args.grid (joined c.args.arcs.arcs ++ gathered layer_points w)) (c.deref.ensures.value ∙ sym c.from_vec.ensures))

pub returns-clause-few : goal.returns-clause-few
returns-clause-few c = c.bounds-bbox.ensures.few
