use Rattle.std.proofs.Common.{[], arith, subst, sym}
use Rattle.std.specs.Option.{option_copied}
use Rattle.theory.specs.Lists.{Pairwise}
use Rattle.difference_text.proofs.DifferenceTextLemmas.{IsMeantOf, all_taken, all_means, one_more_means}
use Rattle.difference_text.proofs.difference.changes_asked.Goals as goal

pub loop-pair-init : goal.loop-pair-init
loop-pair-init c = subst (Pairwise (IsMeantOf c.in-Ok.comparison (option_copied c.args.options.now.key)) []) (sym c.new-layers.ensures.items) tt

pub loop-pair-preserved : goal.loop-pair-preserved
loop-pair-preserved c =
    one_more_means (IsMeantOf c.in-Ok.comparison (option_copied c.args.options.now.key)) c.deref-pair-items.result.now c.loop-pair.layers.items c.push.new.self.items c.loop-pair.pair-index _
    c.in_ok-changes.field-0 c.loop-pair.invariant c.loop-pair-test.true c.in_ok-push.ensures.items (record { pair = c.in_ok-changes.ensures.pair; changes = c.in_ok-changes.ensures.changes })

pub returns-clause-told : goal.returns-clause-told
returns-clause-told c = λ m n old new asked.
    all_means (option_copied c.args.options.now.layer) (option_copied c.args.options.now.key) m n c.in-Ok.comparison (c.in-Ok.ensures.compared m n old new)
    c.in_ok-pairs.pairs.items c.loop-pair.layers.items (c.in_ok-pairs.ensures m n (c.in-Ok.ensures.compared m n old new) asked)
    (all_taken (IsMeantOf c.in-Ok.comparison (option_copied c.args.options.now.key)) c.deref-pair-items.result.now c.in_ok-pairs.pairs.items c.loop-pair.layers.items c.loop-pair.pair-index
    (omega (arith, c.loop-pair-test.false)) c.deref-pair-items.ensures.value c.loop-pair.invariant)
