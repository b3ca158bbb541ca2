use Rattle.std.proofs.Common.{List, sym, subst}
use Rattle.grid.specs.declared.pos.Pos.{Pos}
use Rattle.reading.specs.FaultLists.Found.{AtMostOne, pairs_of}
use Rattle.reading.specs.Outlines.{outline_faults}
use Rattle.geojson_io.proofs.validity.position.judge_positions.Goals as goal

pub returns-in-Ok : goal.returns-in-Ok
returns-in-Ok g c =
    let of = λ (ps : List Pos). outline_faults (g.O.Outline.fault ps) in
    let found = c.in_ok-judge_outline-in-Ok in
    subst (λ ps. AtMostOne ps (pairs_of found.field-0.items)) (sym (c.in-Ok.ensures.ok.0 of)) found.ensures
