use Rattle.std.proofs.Common.{◌++◌, ap, ◌∙◌}
use Rattle.std.proofs.lemmas.Result.{on_ok_weaker}
use Rattle.compare.proofs.BodyUses.{uses_of_lists}
use Rattle.compare.proofs.quality.uses.add_body.Goals as goal

pub returns-in_default : goal.returns-in_default
returns-in_default c =
    on_ok_weaker c.add_lists.result
    (λ e. e ∙ ap (λ w. c.args.uses.now.items ++ w) (uses_of_lists c.args.topology.now.arcs.arcs c.args.feature c.args.body.now c.in_default.not-Point c.in_default.not-MultiPoint))
    c.add_lists.ensures
