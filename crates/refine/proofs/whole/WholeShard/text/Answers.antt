use Rattle.std.proofs.lemmas.Result.{IfOk-weaker}
use Rattle.refine.proofs.WrittenTexts.{is_canon, is_read}
use Rattle.refine.proofs.whole.WholeShard.text.Goals as goal

pub returns-clause-text : goal.returns-clause-text
returns-clause-text c =
    let s = c.args.self.now in
    let built = c.in_ok-topology.ensures in
    IfOk-weaker c.text_of.result _ _ (λ t is. is_canon c.in_ok-topology.topology s.map s.grid t.items built.of_map built.topology.grid is) c.text_of.ensures.text

pub returns-clause-accepted : goal.returns-clause-accepted
returns-clause-accepted c =
    let s = c.args.self.now in
    let built = c.in_ok-topology.ensures in
    IfOk-weaker c.text_of.result _ _
    (λ t is fits. is_read c.in_ok-topology.topology s.map s.grid t.items built.of_map built.topology.grid is c.text_of.ensures.limits built.few fits)
    c.text_of.ensures.text
