use Rattle.std.proofs.lemmas.Result.{IfOk-weaker}
use Rattle.refine.proofs.WrittenTexts.{is_canon, is_read}
use Rattle.refine.proofs.cut_shard.CutShard.text.Goals as goal

pub returns-clause-text : goal.returns-clause-text
returns-clause-text c =
    let s = c.args.self.now in
    IfOk-weaker c.text_of.result _ _ (λ t is. is_canon c.topology.result.now s.map s.grid t.items c.topology.ensures.of_map c.topology.ensures.grid is) c.text_of.ensures.text

pub returns-clause-accepted : goal.returns-clause-accepted
returns-clause-accepted c =
    let s = c.args.self.now in
    IfOk-weaker c.text_of.result _ _
    (λ t is fits. is_read c.topology.result.now s.map s.grid t.items c.topology.ensures.of_map c.topology.ensures.grid is c.text_of.ensures.limits c.topology.ensures.few fits)
    c.text_of.ensures.text
