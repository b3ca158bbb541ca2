use Rattle.std.proofs.Common.{◌∙◌, ap, sym, arith}
use Rattle.split_heal.specs.Walks.{count_left}
use Rattle.split_heal.proofs.WalkedRuns.{fewer_left}
use Rattle.split_heal.proofs.walking.take_next.Goals as goal

pub returns-then-clear-clause-fewer : goal.returns-then-clear-clause-fewer
returns-then-clear-clause-fewer c =
    let e = fewer_left c.args.left.now c.next.inside.arc (sym c.clear.ensures.was ∙ c.if-clear.true) in
    let f = ap count_left c.clear.ensures.after in
    omega (arith, e, f)
