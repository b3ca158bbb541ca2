use Rattle.std.proofs.Common.{sym}
use Rattle.std.proofs.lemmas.Result.{IfErr-weaker, IfOk-weaker}
use Rattle.noshinka.proofs.Asked.{neighbors_answer, neighbors_lists}
use Rattle.noshinka.proofs.questions.neighbors.Goals as goal

pub returns-clause-neighbors : goal.returns-clause-neighbors
returns-clause-neighbors c =
    IfOk-weaker c.text_of_neighbors.result _ _
    (λ t is. neighbors_answer c.args.options.now c.args.text.now c.args.layer.now t.items c.in_ok-topology.topology (sym c.if-not-are_neighbors_options.ensures) c.in_ok-topology.ensures.means c.in_ok-layer.ensures.name c.in_ok-by.ensures.name is)
    c.text_of_neighbors.ensures.text

pub returns-clause-refused : goal.returns-clause-refused
returns-clause-refused c =
    IfErr-weaker c.text_of_neighbors.result _ _
    (λ r is. neighbors_lists c.args.options.now c.args.text.now c.args.layer.now c.in_ok-topology.topology c.in_ok-topology.ensures.means _ c.in_ok-layer.ensures.name r is)
    c.text_of_neighbors.ensures.refused
