use Rattle.std.proofs.Common.{◌≡◌, ◌∙◌, arith, Some}
use Rattle.std.proofs.lemmas.Result.{err_from_is_err_and}
use Rattle.std.proofs.lemmas.List.Elements.{All-pop}
use Rattle.std.proofs.lemmas.List.Sorted.{All-permutation, length_permutation}
use Rattle.merging.proofs.JoiningLemmas.{moved_union, one_union}
use Rattle.merging.proofs.joining.join_all.Goals as goal

pub returns-in_err-left-clause-memory : goal.returns-in_err-left-clause-memory
returns-in_err-left-clause-memory g c = λ t h.
    let p = err_from_is_err_and c.from_residual.result c.from_residual.ensures.1 in
    rw p.1 (p.2 ∙ c.in_err-left.ensures.memory t (c.rounds.invariant.on_grid t h))

pub rounds-init : goal.rounds-init
rounds-init g c =
    let sorted = c.sort_by_z_order.new.shards.items in
    let moved = c.sort_by_z_order.ensures in
    record {
      some = omega (arith, length_permutation c.args.shards.items sorted moved, c.requires);
      union = moved_union g.S.Shard.grid_of g.S.Shard.map_of c.args.shards.items sorted moved;
      on_grid = λ t. All-permutation (λ s. g.S.Shard.grid_of s ≡ t) c.args.shards.items sorted moved;
    }

pub rounds-preserved : goal.rounds-preserved
rounds-preserved g c = record {
  some = omega (arith, c.in_ok-left.ensures.half, c.rounds.invariant.some);
  union = c.in_ok-left.ensures.union ∙ c.rounds.invariant.union;
  on_grid = λ t h. c.in_ok-left.ensures.grid t (c.rounds.invariant.on_grid t h);
}

pub returns-clause-union : goal.returns-clause-union
returns-clause-union g c =
    one_union g.S.Shard.grid_of g.S.Shard.map_of c.in-Some.shard c.rounds.left.items c.pop.new.self.items c.in-Some.ensures.items (omega (arith, c.rounds-test.false, c.len.ensures, c.rounds.left.ok.0))
    ∙ c.rounds.invariant.union

pub returns-clause-grid : goal.returns-clause-grid
returns-clause-grid g c = λ t h.
    (All-pop (λ s. g.S.Shard.grid_of s ≡ t) c.rounds.left.items c.pop.new.self.items (Some c.in-Some.shard) c.in-Some.ensures.items (c.rounds.invariant.on_grid t h)).1
