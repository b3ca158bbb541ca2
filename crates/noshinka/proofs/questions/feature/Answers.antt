use Rattle.std.proofs.Common.{subst}
use Rattle.std.proofs.lemmas.Result.{IfOk-weaker}
use Rattle.noshinka.specs.Answers.{IsCollectionText}
use Rattle.noshinka.proofs.Texts.{feature_answer}
use Rattle.noshinka.proofs.questions.feature.Goals as goal

pub returns-clause-features : goal.returns-clause-features
returns-clause-features c =
    let whole = c.in_ok-topology.topology in
    IfOk-weaker c.text_of_layer.result _ _
    (λ t is. feature_answer c.args.text.now c.args.layer.now t.items whole c.in_ok-topology.ensures.means
    (subst (λ n. IsCollectionText whole n t.items) c.in_ok-layer.ensures.name is))
    c.text_of_layer.ensures.text
