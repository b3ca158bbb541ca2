use Rattle.std.proofs.Common.{◌≡◌, sym, ap, ◌∙◌, rules}
use Rattle.lines.specs.Reading.{line_fault}
use Rattle.lines.specs.Turned.{position_cmp}
use Rattle.fixing.proofs.Parts.{lists_are_lines}
use Rattle.fixing.proofs.linework.fix_line.Goals as goal

pub lines_of-requires : goal.lines_of-requires
lines_of-requires c =
    let copied : c.in_ok-copy.copy.items ≡ c.args.positions.items = search rules in
    lists_are_lines c.args.rules.now c.args.positions.items c.in-Err.fault c.in_ok-need-in-Err.need _ (λ n. sym (ap (line_fault position_cmp) copied) ∙ c.in-Err.ensures.fault n)
    c.in_ok-need-in-Err.ensures.ok c.in_ok-lists-in-Err.ensures.left
