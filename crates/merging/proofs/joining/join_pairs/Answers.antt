use Rattle.std.proofs.Common.{◌≡◌, ◌++◌, length, All, ap, sym, ◌∙◌, refl, subst, arith}
use Rattle.std.specs.Vec.Iter.{into_iter_items}
use Rattle.std.proofs.lemmas.Result.{err_from_is_err_and}
use Rattle.merging.proofs.JoiningLemmas.{pair_joined, last_alone, all_on, two_on}
use Rattle.merging.proofs.RunLemmas.{only_memory}
use Rattle.merging.proofs.joining.join_pairs.Goals as goal

pub returns-in_default-next-clause-grid : goal.returns-in_default-next-clause-grid
returns-in_default-next-clause-grid g c = λ t h.
    let joined = c.loop-first.joined.items in
    let left = into_iter_items c.loop-first.left in
    let mid = into_iter_items c.next.new.self in
    let none : length mid ≡ 0 = omega (arith, c.loop-first.invariant.long, ap length c.in-Some.ensures.cases.0, c.in-Some.ensures.cases.1, c.in_default-next.ensures.cases.0) in
    let same : c.push.new.self.items ≡ joined ++ left = last_alone g.S.Shard.grid_of g.S.Shard.map_of joined left mid c.push.new.self.items c.in-Some.first c.in-Some.ensures.cases.0 none c.in_ok-push.ensures.items in
    subst (All (λ s. g.S.Shard.grid_of s ≡ t)) (sym same) (all_on g.S.Shard.grid_of g.S.Shard.map_of c.args.shards.items joined left t c.loop-first.invariant.paired h)

pub returns-in_err-join_owned-clause-memory : goal.returns-in_err-join_owned-clause-memory
returns-in_err-join_owned-clause-memory g c = λ t h.
    let on_one = two_on g.S.Shard.grid_of g.S.Shard.map_of c.args.shards.items c.loop-first.joined.items _ _ _ c.in-Some.first c.in-Some-next.second t c.loop-first.invariant.paired c.in-Some.ensures.cases.0 c.in-Some-next.ensures.cases.0 h in
    let p = err_from_is_err_and c.from_residual-in_err-join_owned.result c.from_residual-in_err-join_owned.ensures.1 in
    rw p.1 (p.2 ∙ only_memory _ _ c.in_err-join_owned.field-0.0 _ refl c.in_err-join_owned.ensures.other_grid on_one)

pub loop-first-preserved : goal.loop-first-preserved
loop-first-preserved g c =
    let left = into_iter_items c.loop-first.left in
    let mid = into_iter_items c.next.new.self in
    let after = into_iter_items c.next-in-Some.new.self in
    let one = c.in-Some.ensures.cases in
    let two = c.in-Some-next.ensures.cases in
    record {
      long = omega (arith, c.loop-first.invariant.long, ap length one.0, one.1, ap length two.0, two.1);
      paired = pair_joined g.S.Shard.grid_of g.S.Shard.map_of c.args.shards.items c.loop-first.joined.items left mid after c.push-in-Some.new.self.items c.in-Some.first c.in-Some-next.second c.in_ok-join_owned.field-0
          c.loop-first.invariant.paired one.0 two.0 c.in_ok-join_owned.ensures.map c.in_ok-join_owned.ensures.grid c.in_ok-push-2.ensures.items;
    }

pub returns-clause-grid : goal.returns-clause-grid
returns-clause-grid g c = λ t h. (c.loop-first.invariant.paired.on_grid t h).0
