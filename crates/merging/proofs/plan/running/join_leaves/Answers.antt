use Rattle.std.proofs.Common.{◌≡◌, ◌∷◌, [], ◌++◌, length, sym, ◌∙◌, ap, subst}
use Rattle.std.specs.Prelude.{reverse}
use Rattle.std.proofs.lemmas.Result.{err_from_is_err_and}
use Rattle.std.proofs.lemmas.List.Elements.{All-push, All-pop}
use Rattle.std.specs.Prelude.{Some}
use Rattle.merging.specs.declared.plan.Plan.TheVariants.{Leaf}
use Rattle.merging.specs.declared.plan.running.Task.TheVariants.{Run, Join}
use Rattle.merging.specs.Leaves.{leaves, HasIndexes}
use Rattle.merging.proofs.PlanLemmas.{union_at_one}
use Rattle.merging.proofs.RunLemmas.{taken, leaf_index, leaf_made, parts_left, two_made, two_joined}
use Rattle.merging.proofs.plan.running.join_leaves.Goals as goal

pub loop-task-preserved-in_ok-push-in-Leaf : goal.loop-task-preserved-in_ok-push-in-Leaf
loop-task-preserved-in_ok-push-in-Leaf g c =
    let shards = c.args.shards.now in
    let map_of = g.S.Shard.map_of in
    let r = c.in-Run.part in
    let left = c.pop.new.self.items in
    let is_leaf : r.now ≡ Leaf c.in-Leaf.index = c.in-Leaf.is in
    let is_run : c.in-Some.task ≡ Run r = c.in-Run.is in
    let next : c.loop-task.tasks.items ≡ left ++ (Run r ∷ []) = c.in-Some.ensures.items ∙ ap (λ t. left ++ (t ∷ [])) is_run in
    let todo = taken map_of shards c.loop-task.tasks.items left (Run r) (reverse c.loop-task.made.items) _ next c.loop-task.invariant.left in
    let lt = leaf_index map_of shards r c.in-Leaf.index (reverse left) _ _ todo is_leaf in
    let copied = c.in_ok-copy-in-Leaf.ensures.map ∙ union_at_one map_of shards c.in-Leaf.index c.index-shards-index.result lt c.index-shards-index.is in
    let one_grid = c.in_ok-copy-in-Leaf.ensures.grid ∙ ap g.S.Shard.grid_of c.index-shards-index.is ∙ c.requires.one_grid c.in-Leaf.index c.index-shards-index.result lt in
    record {
      left = leaf_made map_of shards r c.in-Leaf.index (reverse left) c.loop-task.made.items _ c.in_ok-copy-in-Leaf.field-0 _ todo is_leaf copied c.in_ok-push-in-Leaf.ensures.items;
      one_grid = rw c.in_ok-push-in-Leaf.ensures.items (All-push (λ s. g.S.Shard.grid_of s ≡ c.args.grid) c.loop-task.made.items c.in_ok-copy-in-Leaf.field-0 c.loop-task.invariant.one_grid one_grid);
    }

pub loop-task-preserved-in_ok-push-in-Node-3 : goal.loop-task-preserved-in_ok-push-in-Node-3
loop-task-preserved-in_ok-push-in-Node-3 g c =
    let shards = c.args.shards.now in
    let map_of = g.S.Shard.map_of in
    let r = c.in-Run.part in
    let left = c.pop.new.self.items in
    let is_run : c.in-Some.task ≡ Run r = c.in-Run.is in
    let next : c.loop-task.tasks.items ≡ left ++ (Run r ∷ []) = c.in-Some.ensures.items ∙ ap (λ t. left ++ (t ∷ [])) is_run in
    let todo = taken map_of shards c.loop-task.tasks.items left (Run r) (reverse c.loop-task.made.items) _ next c.loop-task.invariant.left in
    let parts : leaves r.now ≡ leaves c.deref-in-Node.result.now ++ leaves c.deref.result.now =
    ap leaves c.in-Node.is ∙ (λ i. leaves (sym c.deref-in-Node.ensures i) ++ leaves (sym c.deref.ensures i)) in
    let indexes : HasIndexes (length shards) r.now → HasIndexes (length shards) c.deref-in-Node.result.now × HasIndexes (length shards) c.deref.result.now =
    λ h. let both = subst (HasIndexes (length shards)) c.in-Node.is h in (subst (HasIndexes (length shards)) (sym c.deref-in-Node.ensures) both.0, subst (HasIndexes (length shards)) (sym c.deref.ensures) both.1) in
    record {
      left = parts_left map_of shards r c.deref-in-Node.result c.deref.result left _ _ _ (reverse c.loop-task.made.items) _ todo parts indexes
          c.in_ok-push-in-Node.ensures.items c.in_ok-push-in-Node-2.ensures.items c.in_ok-push-in-Node-3.ensures.items;
      one_grid = c.loop-task.invariant.one_grid;
    }

pub join_last-requires : goal.join_last-requires
join_last-requires g c =
    let left = c.pop.new.self.items in
    let next : c.loop-task.tasks.items ≡ left ++ (Join ∷ []) = c.in-Some.ensures.items ∙ ap (λ t. left ++ (t ∷ [])) c.in-Join.is in
    let todo = taken g.S.Shard.map_of c.args.shards.now c.loop-task.tasks.items left Join (reverse c.loop-task.made.items) _ next c.loop-task.invariant.left in
    record { two = two_made g.S.Shard.map_of c.args.shards.now (reverse left) c.loop-task.made.items _ todo }

pub returns-in_err-join_last-in-Join-clause-memory : goal.returns-in_err-join_last-in-Join-clause-memory
returns-in_err-join_last-in-Join-clause-memory g c =
    let p = err_from_is_err_and c.from_residual-in_err-join_last-in-Join.result c.from_residual-in_err-join_last-in-Join.ensures.1 in
    rw p.1 (p.2 ∙ c.in_err-join_last-in-Join.ensures.memory c.args.grid c.loop-task.invariant.one_grid)

pub loop-task-preserved : goal.loop-task-preserved
loop-task-preserved g c =
    let left = c.pop.new.self.items in
    let next : c.loop-task.tasks.items ≡ left ++ (Join ∷ []) = c.in-Some.ensures.items ∙ ap (λ t. left ++ (t ∷ [])) c.in-Join.is in
    let todo = taken g.S.Shard.map_of c.args.shards.now c.loop-task.tasks.items left Join (reverse c.loop-task.made.items) _ next c.loop-task.invariant.left in
    record {
      left = two_joined g.S.Shard.map_of c.args.shards.now (reverse left) c.loop-task.made.items _ _ todo c.in_ok-join_last-in-Join.ensures.joined;
      one_grid = c.in_ok-join_last-in-Join.ensures.grid c.args.grid c.loop-task.invariant.one_grid;
    }

pub returns-clause-grid : goal.returns-clause-grid
returns-clause-grid g c = (All-pop (λ s. g.S.Shard.grid_of s ≡ c.args.grid) c.loop-task.made.items c.pop-2.new.self.items (Some c.in-Some-pop.shard) c.in-Some-pop.ensures.items c.loop-task.invariant.one_grid).1
