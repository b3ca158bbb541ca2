use Rattle.std.proofs.Common.{◌≡◌, ap, arith, true, false}
use Rattle.std.proofs.lemmas.Bool.Decides.{nat_tests}
use Rattle.std.specs.Fmt.{is_char_start}
use Rattle.fault_reports.specs.LineColumns.{is_line_feed}
use Rattle.fault_reports.proofs.LineColumnsLemmas.{after_inner, after_line_feed, after_start}
use Rattle.fault_reports.proofs.line_columns.LineColumn.after.Goals as goal

pub returns-in-10 : goal.returns-in-10
returns-in-10 c = λ text short is. after_line_feed text c.args.byte _ _ short is (ap is_line_feed c.in-10.is) c.saturating_add.ensures

pub returns-in-128-to-191 : goal.returns-in-128-to-191
returns-in-128-to-191 c = λ text short is.
    let feed : is_line_feed c.args.byte ≡ false = grind (arith, nat_tests) in
    let start : is_char_start c.args.byte ≡ false = grind (arith, nat_tests) in
    after_inner text c.args.byte _ is feed start

pub returns-in_default : goal.returns-in_default
returns-in_default c = λ text short is.
    let feed : is_line_feed c.args.byte ≡ false = grind (arith, nat_tests) in
    let start : is_char_start c.args.byte ≡ true = grind (arith, nat_tests) in
    after_start text c.args.byte _ c.args.self short is feed start c.saturating_add-in_default.ensures
