use Rattle.std.proofs.Common.{length, ◌∙◌, ap, sym, subst, arith}
use Rattle.std.specs.Prelude.{map}
use Rattle.std.specs.Vec.Iter.{into_iter_items}
use Rattle.merging.proofs.MergeLemmas.{refusal_at, none_mapped, length_bytes}
use Rattle.merging.proofs.KeptTexts.{KeptSoFar, nothing_kept, count_read, number_within, shard_kept, shard_dropped, all_kept}
use Rattle.merging.proofs.merge.read_marked.Goals.{then-marks-number+in-Ok+in_ok-push-in-Ok+in_ok-push-in-Ok-2, else-marks-number+in-Ok-read_grid+in_ok-push-in-Ok-read_grid}
use Rattle.merging.proofs.merge.read_marked.Goals as goal

pub loop-text-init : goal.loop-text-init
loop-text-init g c =
    let texts = map g.T.AsSlice.items c.args.texts.items in
    let rest = c.into_iter-left.ensures.rest in
    record {
      long = omega (arith, c.into_iter-left.ensures.len, c.args.texts.ok.0, ap length rest);
      kept = subst (λ ts. KeptSoFar g.S.Shard.grid_of g.S.Shard.map_of texts (map g.T.AsSlice.items ts) c.args.marks.now 0 c.new-grids.result.items c.new-shards.result.items) (sym rest)
          (nothing_kept g.S.Shard.grid_of g.S.Shard.map_of texts c.args.marks.now c.new-grids.result.items c.new-shards.result.items c.new-grids.ensures.items c.new-shards.ensures.items);
    }

pub bounds-marks-number : goal.bounds-marks-number
bounds-marks-number g c =
    let below = number_within g.S.Shard.grid_of g.S.Shard.map_of _ _ _ _ _ _ _ _ c.loop-text.invariant.kept (ap (map g.T.AsSlice.items) c.in-Some.ensures.cases.0) in
    omega (arith, below, c.requires.marks, length_bytes g.T.AsSlice.items c.args.texts.items)

pub overflow_add-number : goal.overflow_add-number
overflow_add-number g c =
    let count = count_read g.S.Shard.grid_of g.S.Shard.map_of _ _ _ _ _ _ c.loop-text.invariant.kept in
    omega (arith, count, c.loop-text.grids.ok.0, c.loop-text.grids.ok.1, c.loop-text.grids.small)

pub returns-clause-read : goal.returns-clause-read
returns-clause-read g c = all_kept g.S.Shard.grid_of g.S.Shard.map_of _ _ _ _ _ _ c.loop-text.invariant.kept (none_mapped g.T.AsSlice.items (into_iter_items c.loop-text.left) (sym c.loop-text.invariant.long ∙ c.in_default.ensures.cases.0))

pub returns-in-Err-clause-fault : goal.returns-in-Err-clause-fault
returns-in-Err-clause-fault g c =
    let r = c.in-Err.ensures.fault in
    refusal_at (λ m. m.grid) (λ m. m.layers) _ _ _ _ _ _ _ _ c.loop-text.invariant.kept.so_far (ap (map g.T.AsSlice.items) c.in-Some.ensures.cases.0)
    (rw c.as_slice.ensures at r.1) r.2

pub returns-in-Err-read_grid-clause-fault : goal.returns-in-Err-read_grid-clause-fault
returns-in-Err-read_grid-clause-fault g c =
    let r = c.in-Err-read_grid.ensures.fault in
    refusal_at (λ m. m.grid) (λ m. m.layers) _ _ _ _ _ _ _ _ c.loop-text.invariant.kept.so_far (ap (map g.T.AsSlice.items) c.in-Some.ensures.cases.0)
    (rw c.as_slice-else-marks-number.ensures at r.1) r.2

pub loop-text-preserved : goal.loop-text-preserved
loop-text-preserved g c =
    let e = ap (map g.T.AsSlice.items) c.in-Some.ensures.cases.0 in
    record {
      long = omega (arith, c.loop-text.invariant.long, ap length c.in-Some.ensures.cases.0, c.in-Some.ensures.cases.1);
      kept = elim c.if-marks-number.branch [
        | then-marks-number+in-Ok+in_ok-push-in-Ok+in_ok-push-in-Ok-2 w ↦
            shard_kept g.S.Shard.grid_of g.S.Shard.map_of _ _ (g.T.AsSlice.items c.in-Some.text) _ c.args.marks.now c.loop-text.number c.loop-text.grids.items c.if-marks-number.grids.items
            c.loop-text.shards.items c.if-marks-number.shards.items w.grid.result w.in-Ok.shard
            c.loop-text.invariant.kept e (let m = w.in-Ok.ensures.means in rw w.as_slice.ensures at m) w.grid.ensures
            (ap (λ v. v.items) w.grids-is ∙ w.in_ok-push-in-Ok.ensures.items) w.if-marks-number.true
            (ap (λ v. v.items) w.shards-is ∙ w.in_ok-push-in-Ok-2.ensures.items)
        | else-marks-number+in-Ok-read_grid+in_ok-push-in-Ok-read_grid w ↦
            let m = w.in-Ok-read_grid.ensures.means in
            shard_dropped g.S.Shard.grid_of g.S.Shard.map_of _ _ (g.T.AsSlice.items c.in-Some.text) _ c.args.marks.now c.loop-text.number c.loop-text.grids.items c.if-marks-number.grids.items
            c.loop-text.shards.items c.if-marks-number.shards.items w.in-Ok-read_grid.grid m.0
            c.loop-text.invariant.kept e (let k = m.1 in rw w.as_slice-else-marks-number.ensures at k)
            (ap (λ v. v.items) w.grids-is ∙ w.in_ok-push-in-Ok-read_grid.ensures.items) w.if-marks-number.false
            (ap (λ v. v.items) w.shards-is)
      ];
    }
