use Rattle.serde_json.specs.View.{view}
use Rattle.topo_io.proofs.Ascending.{ascending_by_name, ascending_no_object, ascending_no_member}
use Rattle.topo_io.proofs.validity.look_at_names.Goals as goal

pub returns-in-Some-as_object : goal.returns-in-Some-as_object
returns-in-Some-as_object c =
    ascending_by_name (view c.args.value.now) (view c.in-Some.objects.now) c.in-Some-as_object.layers.now.entries c.in-Some.ensures c.in-Some-as_object.ensures c.iter-names.ensures.ordered

pub returns-in_default-as_object : goal.returns-in_default-as_object
returns-in_default-as_object c = ascending_no_object (view c.args.value.now) (view c.in-Some.objects.now) c.in-Some.ensures c.in_default-as_object.ensures

pub returns-in_default : goal.returns-in_default
returns-in_default c = ascending_no_member (view c.args.value.now) c.in_default.ensures
