use Rattle.serde_json.specs.View.{view}
use Rattle.fault_reports.proofs.FaultyFeaturesLemmas.{layer_of_many, layer_of_one, topology_element, topology_layer, topology_none}
use Rattle.fault_reports.proofs.features.steps_in_topology.Goals as goal

pub returns-then-not-goes_into-clause-is : goal.returns-then-not-goes_into-clause-is
returns-then-not-goes_into-clause-is c = topology_none _ _ c.if-not-goes_into.ensures.is

pub returns-then-goes_into-clause-is : goal.returns-then-goes_into-clause-is
returns-then-goes_into-clause-is c = topology_element _ c.args.path.now c.if-not-goes_into.ensures.is c.if-goes_into.ensures.is

pub returns-in_err-layer-clause-is : goal.returns-in_err-layer-clause-is
returns-in_err-layer-clause-is c = topology_layer _ c.args.path.now _ _ c.if-not-goes_into.ensures.is c.if-goes_into.ensures.is c.in_err-layer.ensures c.from_residual.ensures

pub returns-then-is_typed-clause-is : goal.returns-then-is_typed-clause-is
returns-then-is_typed-clause-is c = topology_layer _ c.args.path.now _ _ c.if-not-goes_into.ensures.is c.if-goes_into.ensures.is c.in_ok-layer.ensures (layer_of_many (view c.in_ok-layer.layer.now) c.if-is_typed.ensures)

pub returns-else-is_typed-clause-is : goal.returns-else-is_typed-clause-is
returns-else-is_typed-clause-is c = topology_layer _ c.args.path.now _ _ c.if-not-goes_into.ensures.is c.if-goes_into.ensures.is c.in_ok-layer.ensures (layer_of_one (view c.in_ok-layer.layer.now) c.if-is_typed.ensures)
