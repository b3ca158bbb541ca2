use Rattle.std.proofs.Common.{◌≡◌, sym, ap, ◌∙◌, rules}
use Rattle.lines.specs.Reading.{ring_fault}
use Rattle.lines.specs.Turned.{position_cmp}
use Rattle.fixing.proofs.Judged.{not_refused, refused_with}
use Rattle.fixing.proofs.linework.closed_need.Goals.{in-Ok, in-Err}
use Rattle.fixing.proofs.linework.closed_need.Goals as goal

pub returns-clause-refused : goal.returns-clause-refused
returns-clause-refused c =
    let copied : c.in_ok-copy.copy.items ≡ c.args.closed.now = search rules in
    elim c.match-from_closed.branch [
      | in-Ok w ↦ not_refused c.args.rules.now (ring_fault position_cmp c.args.closed.now) c.match-from_closed.result _ w.result-is
      | in-Err w ↦
          refused_with c.args.rules.now (ring_fault position_cmp c.args.closed.now) w.in-Err.fault c.match-from_closed.result w.need_of.result w.result-is
          (λ n. sym (ap (ring_fault position_cmp) copied) ∙ w.in-Err.ensures.fault n) w.need_of.ensures.memory w.need_of.ensures.refused
    ]
