use Rattle.std.proofs.Common.{arith, ◌∙◌}
use Rattle.std.proofs.lemmas.List.{take_all}
use Rattle.std.specs.Option.{option_copied}
use Rattle.difference_text.proofs.DifferenceTextLemmas.{made_of}
use Rattle.difference_text.proofs.difference.BothLayers.changes.Goals as goal

pub returns-clause-changes : goal.returns-clause-changes
returns-clause-changes c =
    made_of c.args.self.now.comparison.now c.args.self.now.pair (option_copied c.args.self.now.key) c.in_ok-difference.difference _ c.in_ok-difference.ensures
    (c.in_ok-singles.ensures ∙ c.deref.ensures.value) (c.in_ok-singles-2.ensures ∙ c.deref-2.ensures.value)
    (c.loop-pair.invariant ∙ take_all c.loop-pair.pair-index c.deref-pair-items.result.now (omega (arith, c.loop-pair-test.false)) ∙ c.deref-pair-items.ensures.value)
