use Rattle.std.proofs.Common.{length, ap, sym, ◌∙◌, subst}
use Rattle.std.proofs.lemmas.Result.{err_from_is_err_and}
use Rattle.merging.specs.Leaves.{leaves}
use Rattle.merging.specs.Merge.{bytes_of, IsMergeFault, IsUnionOf}
use Rattle.merging.specs.Naming.{AreMarksOf}
use Rattle.topo_io.specs.Canon.{canon}
use Rattle.merging.proofs.LeafLemmas.{has_indexes, some_leaves}
use Rattle.merging.proofs.MarkLemmas.{marks_at}
use Rattle.merging.proofs.MergeLemmas.{borrowed_bytes, borrowed_count}
use Rattle.merging.proofs.ThroughTexts.{means_union}
use Rattle.merging.proofs.merge.merge_as_by.Goals as goal

pub named_indexes-requires : goal.named_indexes-requires
named_indexes-requires g c = record { indexes = has_indexes _ _ (sym c.in_default.ensures.first) }

pub merge_marked-requires : goal.merge_marked-requires
merge_marked-requires g c =
    let borrowed = c.in_ok-borrow_texts.field-0.items in
    let is = leaves c.args.plan.now in
    let same = borrowed_count borrowed c.args.texts.now c.in_ok-borrow_texts.ensures in
    let are = marks_at (length c.args.texts.now) is c.deref.result.now (sym c.in_default.ensures.first) (c.deref.ensures.value ∙ c.in_ok-marks.ensures) in
    record { marked = (is, some_leaves c.args.plan.now, subst (λ n. AreMarksOf n is c.deref.result.now) (sym same) are) }

pub returns-in_err-shard-clause-fault : goal.returns-in_err-shard-clause-fault
returns-in_err-shard-clause-fault g c =
    let borrowed = c.in_ok-borrow_texts.field-0.items in
    let is = leaves c.args.plan.now in
    let same = borrowed_count borrowed c.args.texts.now c.in_ok-borrow_texts.ensures in
    let are = marks_at (length c.args.texts.now) is c.deref.result.now (sym c.in_default.ensures.first) (c.deref.ensures.value ∙ c.in_ok-marks.ensures) in
    let bytes = borrowed_bytes (λ t. t.items) borrowed c.args.texts.now c.in_ok-borrow_texts.ensures in
    let told = subst (λ ts. IsMergeFault ts is c.in_err-shard.field-0.0) bytes (c.in_err-shard.ensures.fault is (subst (λ n. AreMarksOf n is c.deref.result.now) (sym same) are)) in
    let p = err_from_is_err_and c.from_residual-in_err-shard.result c.from_residual-in_err-shard.ensures.1 in
    rw p.1 (subst (IsMergeFault (bytes_of c.args.texts.now) is) (sym p.2) told)

pub returns-clause-merged : goal.returns-clause-merged
returns-clause-merged g c =
    let borrowed = c.in_ok-borrow_texts.field-0.items in
    let is = leaves c.args.plan.now in
    let grid = g.S.Shard.grid_of c.in_ok-shard.shard in
    let same = borrowed_count borrowed c.args.texts.now c.in_ok-borrow_texts.ensures in
    let are = marks_at (length c.args.texts.now) is c.deref.result.now (sym c.in_default.ensures.first) (c.deref.ensures.value ∙ c.in_ok-marks.ensures) in
    let bytes = borrowed_bytes (λ t. t.items) borrowed c.args.texts.now c.in_ok-borrow_texts.ensures in
    let union = subst (λ ts. IsUnionOf ts is grid (g.S.Shard.map_of c.in_ok-shard.shard)) bytes (c.in_ok-shard.ensures.merged is (subst (λ n. AreMarksOf n is c.deref.result.now) (sym same) are)) in
    record {
      indexes = union.indexes;
      grid = grid;
      maps = union.maps;
      meant = union.meant;
      text = c.in_ok-text.ensures.text ∙ ap (canon grid) union.union;
    }

pub returns-clause-accepted : goal.returns-clause-accepted
unfolding returns-clause-merged
returns-clause-accepted g c =
    let borrowed = c.in_ok-borrow_texts.field-0.items in
    let is = leaves c.args.plan.now in
    let grid = g.S.Shard.grid_of c.in_ok-shard.shard in
    let same = borrowed_count borrowed c.args.texts.now c.in_ok-borrow_texts.ensures in
    let are = marks_at (length c.args.texts.now) is c.deref.result.now (sym c.in_default.ensures.first) (c.deref.ensures.value ∙ c.in_ok-marks.ensures) in
    let bytes = borrowed_bytes (λ t. t.items) borrowed c.args.texts.now c.in_ok-borrow_texts.ensures in
    let union = subst (λ ts. IsUnionOf ts is grid (g.S.Shard.map_of c.in_ok-shard.shard)) bytes (c.in_ok-shard.ensures.merged is (subst (λ n. AreMarksOf n is c.deref.result.now) (sym same) are)) in
    means_union (bytes_of c.args.texts.now) c.args.plan.now _ (returns-clause-merged g c) (g.S.Shard.map_of c.in_ok-shard.shard) union.union
    c.in_ok-text.ensures.accepted
