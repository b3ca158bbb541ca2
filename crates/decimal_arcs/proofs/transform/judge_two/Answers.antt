use Rattle.std.proofs.Common.{sym, ◌∙◌}
use Rattle.decimal_arcs.proofs.Numerals.{not_two}
use Rattle.decimal_arcs.proofs.transform.judge_two.Goals as goal

pub returns-then-values-ne2 : goal.returns-then-values-ne2
returns-then-values-ne2 c = c.in_ok-one.ensures.same ∙ sym (not_two c.args.values.now c.if-values-ne2.true)
