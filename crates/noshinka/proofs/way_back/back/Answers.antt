use Rattle.std.proofs.lemmas.Result.{IfErr-weaker}
use Rattle.noshinka.proofs.Backs.{back_not}
use Rattle.noshinka.proofs.way_back.back.Goals as goal

pub returns-clause-refused : goal.returns-clause-refused
returns-clause-refused c = IfErr-weaker c.back_text.result _ _ (λ r h. back_not c.args.options.now c.args.text.now _ c.in-Some.ensures.unit r h) c.back_text.ensures.refused
