use Rattle.std.proofs.Common.{◌≡◌, ◌<◌, length, map, replicate, true, ap, sym, ◌∙◌, subst, arith}
use Rattle.std.proofs.lemmas.List.FromFn.{length-range_with_len}
use Rattle.std.proofs.lemmas.Result.{err_from_is_err_and}
use Rattle.lines.proofs.Codes.{not_empty}
use Rattle.merging.specs.Merge.{all_indexes, IsMergeFault}
use Rattle.merging.proofs.MarkLemmas.{marks_of_all}
use Rattle.merging.proofs.merge.merge_all_by.Goals as goal

pub merge_marked-requires : goal.merge_marked-requires
merge_marked-requires g c =
    let n = length c.args.texts.items in
    let long : c.len.result ≡ n = omega (arith, c.len.ensures, c.args.texts.ok.0) in
    let marks = c.deref.ensures.value ∙ c.in_ok-marks.ensures.items_if_clones_equal (λ y h. h) ∙ ap (λ k. replicate k true) long in
    let some : 0 < n = omega (arith, c.args.texts.ok.0, not_empty _ c.if-is_empty.ensures) in
    record { marked = (all_indexes c.args.texts.items, omega (arith, some, length-range_with_len 0 n), marks_of_all n c.deref.result.now marks) }

pub returns-in_err-shard-clause-fault : goal.returns-in_err-shard-clause-fault
returns-in_err-shard-clause-fault g c =
    let n = length c.args.texts.items in
    let texts = map g.T.AsSlice.items c.args.texts.items in
    let long : c.len.result ≡ n = omega (arith, c.len.ensures, c.args.texts.ok.0) in
    let marks = c.deref.ensures.value ∙ c.in_ok-marks.ensures.items_if_clones_equal (λ y h. h) ∙ ap (λ k. replicate k true) long in
    let told : IsMergeFault texts (all_indexes c.args.texts.items) c.in_err-shard.field-0.0 = c.in_err-shard.ensures.fault (all_indexes c.args.texts.items) (marks_of_all n c.deref.result.now marks) in
    let p = err_from_is_err_and c.from_residual-in_err-shard.result c.from_residual-in_err-shard.ensures.1 in
    rw p.1 (subst (IsMergeFault texts (all_indexes c.args.texts.items)) (sym p.2) told)

pub returns-clause-merged : goal.returns-clause-merged
returns-clause-merged g c =
    let n = length c.args.texts.items in
    let long : c.len.result ≡ n = omega (arith, c.len.ensures, c.args.texts.ok.0) in
    let marks = c.deref.ensures.value ∙ c.in_ok-marks.ensures.items_if_clones_equal (λ y h. h) ∙ ap (λ k. replicate k true) long in
    c.in_ok-shard.ensures.merged (all_indexes c.args.texts.items) (marks_of_all n c.deref.result.now marks)
