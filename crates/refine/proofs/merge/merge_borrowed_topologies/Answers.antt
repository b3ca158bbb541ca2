use Rattle.std.proofs.Common.{◌≡◌, length, MatchOption, subst}
use Rattle.merging.specs.Merge.{all_indexes, borrowed_texts, IsMergeFault, IsUnionOf}
use Rattle.refine.proofs.merge.merge_borrowed_topologies.Goals as goal

pub returns-in-Err-clause-fault : goal.returns-in-Err-clause-fault
returns-in-Err-clause-fault c =
    let same : c.in_ok-to_vec.field-0.items ≡ c.args.texts.now = c.in_ok-to_vec.ensures.items_if_clones_equal (λ x y h. h) in
    subst (λ ts. IsMergeFault (borrowed_texts ts) (all_indexes ts) c.in-Err.fault) same c.in-Err.ensures.fault

pub returns-in-Ok-clause-merged : goal.returns-in-Ok-clause-merged
returns-in-Ok-clause-merged c =
    let texts = c.args.texts.now in
    let same : c.in_ok-to_vec.field-0.items ≡ texts = c.in_ok-to_vec.ensures.items_if_clones_equal (λ x y h. h) in
    c.topology_of_union.ensures.merged (borrowed_texts texts) (all_indexes texts) (length texts)
    (subst (λ ts. MatchOption c.in-Ok.shard (length ts ≡ 0) (λ s. IsUnionOf (borrowed_texts ts) (all_indexes ts) s.grid s.map)) same c.in-Ok.ensures.merged)

pub returns-in-Ok-clause-text : goal.returns-in-Ok-clause-text
returns-in-Ok-clause-text c =
    let texts = c.args.texts.now in
    let same : c.in_ok-to_vec.field-0.items ≡ texts = c.in_ok-to_vec.ensures.items_if_clones_equal (λ x y h. h) in
    c.topology_of_union.ensures.text (borrowed_texts texts) (all_indexes texts) (length texts)
    (subst (λ ts. MatchOption c.in-Ok.shard (length ts ≡ 0) (λ s. IsUnionOf (borrowed_texts ts) (all_indexes ts) s.grid s.map)) same c.in-Ok.ensures.merged)
