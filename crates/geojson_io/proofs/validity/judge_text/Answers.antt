use Rattle.std.proofs.Common.{sym, ◌∙◌}
use Rattle.reading.specs.Text.{document}
use Rattle.reading.proofs.FaultListsLemmas.Wholes.{no_document}
use Rattle.geojson_io.specs.Features.{geojson_faults}
use Rattle.geojson_io.proofs.validity.judge_text.Goals as goal

pub returns-in_ok-one_of-in-Err : goal.returns-in_ok-one_of-in-Err
returns-in_ok-one_of-in-Err c =
    let one = c.in_ok-one_of-in-Err.ensures in
    one.1.same ∙ sym (no_document (document c.args.bytes.now) c.in-Err.fault c.in-Err.ensures.err one.0 (geojson_faults c.args.grid.now))
