use Rattle.std.proofs.Common.{[], ap, subst, sym, ◌++◌, ◌∙◌, ◌∷◌}
use Rattle.std.proofs.lemmas.Result.{IfOk-weaker}
use Rattle.std.specs.Option.{option_copied}
use Rattle.difference_text.specs.DifferenceText.{ArePairsAsked, LackLayer}
use Rattle.difference_text.proofs.DifferenceTextLemmas.{all_asked, known_name, one_asked}
use Rattle.difference_text.proofs.difference.pairs_asked.Goals as goal

pub returns-in_default : goal.returns-in_default
returns-in_default c =
    IfOk-weaker c.pairs.result _ _
    (λ v paired m n h asked. subst (λ layer. ArePairsAsked (option_copied layer) m n c.args.comparison.now v.items) (sym c.in_default.is) (all_asked m n c.args.comparison.now h v.items (paired m n h)))
    c.pairs.ensures

pub returns : goal.returns
returns c = λ m n h asked.
    subst (λ layer. ArePairsAsked (option_copied layer) m n c.args.comparison.now c.push.new.self.items) (sym c.in-Some.is)
    (one_asked m n c.args.comparison.now h c.in-Some.name.now c.pair.result c.push.new.self.items (c.pair.ensures m n h)
    (known_name m n c.in-Some.name.now (subst (λ layer. ¬ LackLayer (option_copied layer) m n) c.in-Some.is asked))
    (c.in_ok-push.ensures.items ∙ ap (λ l. l ++ (c.pair.result ∷ [])) c.new-pairs.ensures.items))
