use Rattle.std.proofs.Common.{◌++◌, ◌+◌, drop, subst}
use Rattle.lines.proofs.Dropping.{drop_item}
use Rattle.chains.specs.Repeats.{AreMet}
use Rattle.chains.proofs.MetVertices.{met_step}
use Rattle.chains.proofs.repeats.Repeats.add_vertices.Goals as goal

pub loop-vertex-preserved : goal.loop-vertex-preserved
loop-vertex-preserved c = λ all later a.
    let vertices = c.args.vertices.now in
    let i = c.loop-vertex.vertex-index in
    met_step c.vertex-item.result c.loop-vertex.self c.insert.new.self (drop (i + 1) vertices ++ later) c.insert.ensures all
    (subst (λ l. AreMet c.loop-vertex.self all (l ++ later)) (drop_item vertices i c.vertex-item.result c.loop-vertex-test.true c.vertex-item.is)
    (c.loop-vertex.invariant all later a))
