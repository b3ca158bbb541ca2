use Rattle.std.proofs.Common.{IfOk, OnOk, refl, sym, subst}
use Rattle.shapes.specs.Maps.{Layers}
use Rattle.topo.specs.OfMap.{IsOf}
use Rattle.refine.specs.Edits.{IsEditedTo, IsOnGrid}
use Rattle.topo.specs.LayerLaws.Less.{less}
use Rattle.refine.proofs.EditsDone.{joined_is_edit, joined_on_grid}
use Rattle.refine.proofs.session.apply_edit.Goals as goal

pub returns-in-Join-clause-of_map : goal.returns-in-Join-clause-of_map
returns-in-Join-clause-of_map c =
    subst (λ e. IfOk c.join_topologies.result (λ t. (m : Layers) → IsOf m c.args.topology.now → (n : Layers) × IsEditedTo m e n × IsOf n t)) (sym c.in-Join.is)
    (joined_is_edit c.args.topology.now c.in-Join.other c.join_topologies.result c.join_topologies.ensures.right c.join_topologies.ensures.of_map)

pub returns-in-Join-clause-on_grid : goal.returns-in-Join-clause-on_grid
returns-in-Join-clause-on_grid c =
    subst (λ e. OnOk c.join_topologies.result (IsOnGrid c.args.topology.now.grid e)) (sym c.in-Join.is)
    (joined_on_grid c.args.topology.now.grid c.in-Join.other.grid c.join_topologies.result c.join_topologies.ensures.other_grid)

pub returns-in_ok-remove-in-Remove-clause-of_map : goal.returns-in_ok-remove-in-Remove-clause-of_map
returns-in_ok-remove-in-Remove-clause-of_map c = λ m of_m.
    let r = c.in-Remove.map in
    (less m r, subst (λ e. IsEditedTo m e (less m r)) (sym c.in-Remove.is) refl, subst (IsOf (less m r)) (sym c.into_topology.ensures) (c.in_ok-remove-in-Remove.ensures.of_map m of_m))
