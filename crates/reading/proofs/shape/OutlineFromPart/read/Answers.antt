use Rattle.std.proofs.Common.{List, sym, ap, ◌∙◌, subst, rules}
use Rattle.serde_json.specs.View.{view}
use Rattle.faults.specs.Fault.{Pair}
use Rattle.grid.specs.declared.pos.Pos.{Pos}
use Rattle.reading.specs.Fault.{LeastOrWant}
use Rattle.reading.specs.Outlines.{outline_faults}
use Rattle.reading.proofs.Results.{ok_with, err_map}
use Rattle.reading.proofs.shape.OutlineFromPart.read.Goals as goal

pub returns-in_err-positions-clause-err : goal.returns-in_err-positions-clause-err
returns-in_err-positions-clause-err g c =
    let asked : List Pos → List Pair = λ ps. outline_faults (g.O.Outline.fault ps) in
    let part : LeastOrWant (g.S.Positions.list_faults c.args.self.now.from asked (view c.args.value.now)) c.in_err-positions.field-0.0 = c.in_err-positions.ensures.err asked in
    search (rules, part)

pub returns-clause-ok : goal.returns-clause-ok
returns-clause-ok g c =
    let (judged, same) = c.in_ok-positions.ensures.ok in
    ok_with c.read_outline.result _ _ _ c.read_outline.ensures.ok c.read_outline.ensures.made
    (λ none o made. (judged (λ ps. outline_faults (g.O.Outline.fault ps)) ∙ none, made ∙ ap g.O.Outline.of same))

pub returns-clause-err : goal.returns-clause-err
returns-clause-err g c =
    let asked : List Pos → List Pair = λ ps. outline_faults (g.O.Outline.fault ps) in
    err_map c.read_outline.result _ _ c.read_outline.ensures.err (λ f h. subst (λ ps. LeastOrWant ps f) (sym (c.in_ok-positions.ensures.ok.0 asked)) h)
