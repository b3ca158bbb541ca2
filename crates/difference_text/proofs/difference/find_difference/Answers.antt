use Rattle.std.proofs.Common.{◌≡◌, false, true}
use Rattle.std.specs.Option.{option_copied}
use Rattle.difference_text.proofs.DifferenceTextLemmas.{if_alike}
use Rattle.difference_text.proofs.difference.find_difference.Goals as goal

false_true : false ≡ true → ⊥
false_true e = cc

pub returns-in-Ok-clause-same : goal.returns-in-Ok-clause-same
returns-in-Ok-clause-same c = λ m n old new.
    if_alike (option_copied c.args.options.now.layer) (option_copied c.args.options.now.key) m n c.in-Ok.difference.layers.items
    (c.in-Ok.ensures.told m n old new (λ lack. false_true ((c.if-lack_layer.ensures m n old new).1 lack)))
