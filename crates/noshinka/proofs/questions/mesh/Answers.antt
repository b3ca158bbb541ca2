use Rattle.std.proofs.lemmas.Result.{IfErr-weaker, IfOk-weaker}
use Rattle.noshinka.proofs.Asked.{mesh_answer, mesh_layer}
use Rattle.noshinka.proofs.questions.mesh.Goals as goal

pub returns-clause-borders : goal.returns-clause-borders
returns-clause-borders c =
    IfOk-weaker c.text_of_borders.result _ _
    (λ t is. mesh_answer c.args.options.now c.args.text.now t.items c.in_ok-topology.topology (c.if-options-ne-MESH_SIZE.false, (c.in_ok-layer.ensures.choice, c.in_ok-edges.ensures.choice)) c.in_ok-topology.ensures.means c.in_ok-layer.ensures.scope c.in_ok-by.ensures.name c.in_ok-edges.ensures.edges is)
    c.text_of_borders.ensures.text

pub returns-clause-refused : goal.returns-clause-refused
returns-clause-refused c =
    IfErr-weaker c.text_of_borders.result _ _
    (λ r is. mesh_layer c.args.options.now c.args.text.now c.in_ok-topology.topology c.in_ok-topology.ensures.means _ c.in_ok-layer.ensures.scope r is)
    c.text_of_borders.ensures.refused
