use Rattle.std.proofs.Common.{[], ap, ◌∙◌}
use Rattle.reading.specs.Outlines.{outline_faults}
use Rattle.reading.proofs.Outlines.{outline_refused}
use Rattle.reading.proofs.outline.read_outline.Goals as goal

pub returns-in-Ok-clause-ok : goal.returns-in-Ok-clause-ok
returns-in-Ok-clause-ok g c = ap outline_faults c.in-Ok.ensures.ok

pub returns-in-Err-clause-err : goal.returns-in-Err-clause-err
returns-in-Err-clause-err g c =
    outline_refused (g.O.Outline.fault c.args.positions.items) c.in-Err.fault c.here.result c.in-Err.ensures.refused (c.here.ensures ∙ ap (λ k. record { path = []; kind = k }) c.kind_of.ensures)
