use Rattle.merging.proofs.RunLemmas.{refused_for_memory, refused_off_grid}
use Rattle.merging.proofs.join_many.ByHalvesJoinMany.join_many.Goals as goal

pub returns-then-not-are_on_one_grid-clause-other_grid : goal.returns-then-not-are_on_one_grid-clause-other_grid
returns-then-not-are_on_one_grid-clause-other_grid g c =
    refused_off_grid g.S.Shard.grid_of c.deref.result.now c.args.shards.items c.are_on_one_grid.result c.are_on_one_grid.ensures c.deref.ensures.value c.if-not-are_on_one_grid.true

pub returns-clause-other_grid : goal.returns-clause-other_grid
returns-clause-other_grid g c =
    refused_for_memory g.S.Shard.grid_of c.deref.result.now c.args.shards.items c.are_on_one_grid.result c.are_on_one_grid.ensures c.deref.ensures.value c.if-not-are_on_one_grid.false
    c.join_all.result c.join_all.ensures.memory
