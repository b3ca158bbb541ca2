use Rattle.std.proofs.Common.{subst}
use Rattle.serde_json.specs.View.{view}
use Rattle.reading.specs.FaultLists.Found.{AreFound, pairs_of}
use Rattle.reading.specs.declared.fault_lists.found.Wanted.TheVariants.{First}
use Rattle.reading.proofs.FaultListsLemmas.Ascending.{first_means}
use Rattle.reading.proofs.Results.{err_map}
use Rattle.geojson_io.specs.Features.{geojson_faults}
use Rattle.geojson_io.proofs.Ascending.{ascending_geojson}
use Rattle.geojson_io.proofs.validity.validate.Goals as goal

pub returns-in-Ok-clause-err : goal.returns-in-Ok-clause-err
returns-in-Ok-clause-err c =
    let t = c.args.grid.now in
    let d = view c.args.value.now in
    err_map c.first_or_none.result _ _ c.first_or_none.ensures.err
    (λ f told. first_means (geojson_faults t d) f told.0 (ascending_geojson t d) (subst (λ fs. AreFound First (geojson_faults t d) (pairs_of fs)) told.1 c.in-Ok.ensures))
