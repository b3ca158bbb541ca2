use Rattle.difference_text.proofs.DifferenceCounts.{counts_more}
use Rattle.difference_text.proofs.difference.with_layer.Goals as goal

pub returns : goal.returns
returns c = λ layers short is.
    counts_more layers c.args.layer.now c.args.counts _ _ _ _ _ c.len.result c.len-2.result c.len-3.result c.from.result c.from-2.result c.is_none.result c.is_none-2.result short is
    c.len.ensures c.saturating_add.ensures c.len-2.ensures c.saturating_add-2.ensures c.len-3.ensures c.saturating_add-3.ensures
    c.is_none.ensures c.from.ensures c.saturating_add-4.ensures c.is_none-2.ensures c.from-2.ensures c.saturating_add-5.ensures
