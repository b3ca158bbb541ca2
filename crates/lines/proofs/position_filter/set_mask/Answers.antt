use Rattle.std.proofs.Common.{◌<◌, ◌≤◌, ◌∙◌, subst}
use Rattle.lines.proofs.Marking.{mask_set, past_words}
use Rattle.lines.proofs.Dropping.{item_at}
use Rattle.lines.proofs.position_filter.set_mask.Goals as goal

pub returns-then-at-len : goal.returns-then-at-len
returns-then-at-len c =
    mask_set c.args.words.now.items c.args.at c.index.result.now c.args.mask
    (item_at c.args.words.now.items c.args.at c.index.result.now (subst (λ w. c.args.at < w) (c.len.ensures ∙ c.args.words.now.ok.0) c.if-at-len.true) c.index.ensures)

pub returns-else-at-len : goal.returns-else-at-len
returns-else-at-len c = (
  (λ n m k. k),
  past_words c.args.words.now.items c.args.at c.args.mask (subst (λ w. w ≤ c.args.at) (c.len.ensures ∙ c.args.words.now.ok.0) c.if-at-len.false),
)
