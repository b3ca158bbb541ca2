use Rattle.std.proofs.Common.{sym, ap, ◌∙◌}
use Rattle.serde_json.specs.View.{view}
use Rattle.reading.specs.Fault.{unless_faulty}
use Rattle.reading.specs.Parts.{elements}
use Rattle.reading.proofs.Faulty.{faulty_part}
use Rattle.reading.proofs.Lists.{zip_is}
use Rattle.reading.proofs.Results.{ok_map, err_map}
use Rattle.geojson_io.specs.Positions.{position_of, positions_of}
use Rattle.geojson_io.proofs.reader.position.PositionPositions.read_positions.Goals as goal

pub returns-clause-ok : goal.returns-clause-ok
returns-clause-ok c =
    let t = c.args.self.now.grid in
    let d = view c.args.value.now in
    ok_map c.read_list.result _ _ c.read_list.ensures.ok (λ ps read.
    let same = zip_is (position_of t) (elements d) ps.items read.1 in
    (λ of. ap (λ faults. unless_faulty faults (of (positions_of t d))) read.0 ∙ ap of (sym same), same))

pub returns-clause-err : goal.returns-clause-err
returns-clause-err c = err_map c.read_list.result _ _ c.read_list.ensures.err (λ f told of. faulty_part _ _ f told)
