use Rattle.std.proofs.lemmas.Result.{IfErr-weaker, IfOk-weaker}
use Rattle.noshinka.proofs.Differences.{both_refused, diff_asked}
use Rattle.noshinka.proofs.differing.diff.Goals as goal

pub returns-clause-made : goal.returns-clause-made
returns-clause-made c =
    IfOk-weaker c.text_of_difference.result _ _
    (λ t is. diff_asked c.args.options.now c.args.old.now c.args.new.now c.in_ok-old.old c.in_ok-new.new
    (c.if-options-ne-SIZE.false, (c.in_ok-layer.ensures.choice, (c.in_ok-key.ensures.choice, c.in_ok-json.ensures.choice))) c.in_ok-old.ensures.means c.in_ok-new.ensures.means c.in_ok-layer.ensures.scope c.in_ok-key.ensures.scope c.in_ok-json.ensures.yes t.items is)
    c.text_of_difference.ensures.made

pub returns-clause-refused : goal.returns-clause-refused
returns-clause-refused c =
    IfErr-weaker c.text_of_difference.result _ _
    (λ r is. both_refused c.args.options.now c.args.old.now c.args.new.now c.in_ok-old.old c.in_ok-new.new c.in_ok-old.ensures.means c.in_ok-new.ensures.means _ c.in_ok-layer.ensures.scope r is)
    c.text_of_difference.ensures.refused
