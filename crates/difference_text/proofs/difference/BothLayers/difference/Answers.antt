use Rattle.std.proofs.Common.{IfOk, subst, sym}
use Rattle.std.specs.Option.{option_copied}
use Rattle.difference_text.proofs.DifferenceTextLemmas.{TellsBy}
use Rattle.difference_text.proofs.difference.BothLayers.difference.Goals as goal

pub returns-in-Some : goal.returns-in-Some
returns-in-Some c =
    subst (λ key. IfOk c.difference_by.result (TellsBy c.args.self.now.comparison.now c.args.self.now.pair (option_copied key))) (sym c.in-Some.is)
    c.difference_by.ensures

pub returns-in_ok-difference-in-None : goal.returns-in_ok-difference-in-None
returns-in_ok-difference-in-None c =
    subst (λ key. TellsBy c.args.self.now.comparison.now c.args.self.now.pair (option_copied key) c.in_ok-difference-in-None.field-0) (sym c.in-None.is)
    c.in_ok-difference-in-None.ensures
