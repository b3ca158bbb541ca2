use Rattle.std.proofs.Common.{Ok}
use Rattle.std.proofs.lemmas.Result.{err_from_is_err_and}
use Rattle.merging.proofs.RunLemmas.{refused_for_memory, refused_off_grid}
use Rattle.refine.specs.OnGrid.{MapOnGrid}
use Rattle.refine.proofs.cut_all.join_at_once.Goals as goal

pub returns-then-not-are_on_one_grid-clause-other_grid : goal.returns-then-not-are_on_one_grid-clause-other_grid
returns-then-not-are_on_one_grid-clause-other_grid c =
    refused_off_grid (λ (s : MapOnGrid). s.grid) c.deref.result.now c.args.shards.items c.are_on_one_grid.result c.are_on_one_grid.ensures c.deref.ensures.value
    c.if-not-are_on_one_grid.true

pub returns-in_err-topology-clause-other_grid : goal.returns-in_err-topology-clause-other_grid
returns-in_err-topology-clause-other_grid c =
    let p = err_from_is_err_and c.from_residual.result c.from_residual.ensures.1 in
    refused_for_memory (λ (s : MapOnGrid). s.grid) c.deref.result.now c.args.shards.items c.are_on_one_grid.result c.are_on_one_grid.ensures c.deref.ensures.value
    c.if-not-are_on_one_grid.false c.from_residual.result (λ t h. rw p.1 p.2)

pub returns-clause-other_grid : goal.returns-clause-other_grid
returns-clause-other_grid c =
    refused_for_memory (λ (s : MapOnGrid). s.grid) c.deref.result.now c.args.shards.items c.are_on_one_grid.result c.are_on_one_grid.ensures c.deref.ensures.value
    c.if-not-are_on_one_grid.false (Ok c.of_topology.result) (λ t h. tt)
