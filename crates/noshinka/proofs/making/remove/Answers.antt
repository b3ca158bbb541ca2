use Rattle.std.proofs.lemmas.Result.{IfOk-weaker}
use Rattle.noshinka.proofs.Removals.{removal_answer}
use Rattle.noshinka.proofs.making.remove.Goals as goal

pub returns-in-Ok-topology_of-clause-removed : goal.returns-in-Ok-topology_of-clause-removed
returns-in-Ok-topology_of-clause-removed c =
    IfOk-weaker c.text_without.result _ _
    (λ t is. removal_answer c.args.text.now c.args.removed.now t.items c.in-Ok.topology c.in-Ok-topology_of.others c.in-Ok.ensures.means c.in-Ok-topology_of.ensures.means is)
    c.text_without.ensures.removed
