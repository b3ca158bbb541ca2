use Rattle.std.proofs.Common.{sym, ◌∙◌}
use Rattle.std.proofs.lemmas.Result.{IfOk-weaker}
use Rattle.validate.proofs.AcceptLemmas.Rising.{not_in_order, order_means}
use Rattle.validate.proofs.accept.order.in_order.Goals as goal

pub returns-then-not-names_rise : goal.returns-then-not-names_rise
returns-then-not-names_rise c = not_in_order c.args.table.now.arcs c.args.layers.now (sym c.names_rise.ensures ∙ c.if-not-names_rise.true)

pub returns : goal.returns
returns c =
    IfOk-weaker c.each_rises.result _ _ (λ b e. order_means c.args.table.now.arcs c.args.layers.now b c.requires.there (sym c.names_rise.ensures ∙ c.if-not-names_rise.false) e)
    c.each_rises.ensures
