use Rattle.std.proofs.Common.{sym, ◌∙◌, subst}
use Rattle.topo.specs.Kept.{kept_box}
use Rattle.topo.specs.OfMap.{ArePartsOf}
use Rattle.topo.proofs.OfParts.{kept_for, of_parts}
use Rattle.topo.proofs.topology.Topology.from_parts_without_bbox.Goals as goal

pub invariant_of-result : goal.invariant_of-result
invariant_of-result c = (
  c.requires.0,
  of_parts c.requires.0 (record { grid = c.args.grid; arcs = c.args.arcs; layers = c.from_vec.result; bbox = kept_box c.args.grid c.args.arcs c.from_vec.result c.unknown_box-bbox.result })
      (subst (ArePartsOf c.requires.0 c.args.arcs) (sym c.from_vec.ensures) c.requires.1)
      (kept_for c.args.grid c.args.arcs _ _ c.unknown_box-bbox.result (c.deref.ensures.value ∙ sym c.from_vec.ensures) (c.unknown_box-bbox.ensures.kept c.args.grid)),
)

pub returns-clause-of_map : goal.returns-clause-of_map
returns-clause-of_map c = λ m h.
    of_parts m (record { grid = c.args.grid; arcs = c.args.arcs; layers = c.from_vec.result; bbox = kept_box c.args.grid c.args.arcs c.from_vec.result c.unknown_box-bbox.result })
    (subst (ArePartsOf m c.args.arcs) (sym c.from_vec.ensures) h)
    (kept_for c.args.grid c.args.arcs _ _ c.unknown_box-bbox.result (c.deref.ensures.value ∙ sym c.from_vec.ensures) (c.unknown_box-bbox.ensures.kept c.args.grid))

pub returns-clause-few : goal.returns-clause-few
returns-clause-few c = c.unknown_box-bbox.ensures.few
