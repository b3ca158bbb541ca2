use Rattle.std.proofs.Common.{codes, sym, ap, ◌∙◌}
use Rattle.serde_json.specs.View.{view}
use Rattle.faults.specs.Path.{name}
use Rattle.faults.specs.declared.fault.FaultKind.TheVariants.{NoTransform}
use Rattle.reading.specs.Fault.{here}
use Rattle.reading.proofs.Least.{only, lifted_only}
use Rattle.reading.proofs.Members.{member_there}
use Rattle.reading.proofs.Results.{ok_map}
use Rattle.topo_io.specs.Roots.{transform_of}
use Rattle.topo_io.proofs.reader.read_members.Goals as goal

pub returns-in-None-clause-err : goal.returns-in-None-clause-err
returns-in-None-clause-err c =
    rw (← c.in-None.ensures) (lifted_only (name (codes "transform")) (here NoTransform) c.here.result c.under_name.result (only NoTransform c.here.result c.here.ensures) c.under_name.ensures)

pub returns-in-Some-clause-ok : goal.returns-in-Some-clause-ok
returns-in-Some-clause-ok c = rw (← c.in-Some.ensures) c.read_with.ensures.ok

pub returns-in-Some-clause-grid : goal.returns-in-Some-clause-grid
returns-in-Some-clause-grid c =
    let v = view c.args.value.now in
    ok_map c.read_with.result _ _ c.read_with.ensures.grid (λ made is. is ∙ ap transform_of (sym (member_there (codes "transform") v (view c.in-Some.transform.now) (sym c.in-Some.ensures))))

pub returns-in-Some-clause-err : goal.returns-in-Some-clause-err
returns-in-Some-clause-err c = rw (← c.in-Some.ensures) c.read_with.ensures.err
