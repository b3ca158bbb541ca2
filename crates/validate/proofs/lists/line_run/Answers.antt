use Rattle.std.proofs.Common.{◌∙◌, false, length, sym, true}
use Rattle.validate.proofs.Listing.{line_once, line_says, run_line_ends}
use Rattle.validate.proofs.lists.line_run.Goals as goal

pub returns-then-not-add-clause-stands : goal.returns-then-not-add-clause-stands
returns-then-not-add-clause-stands c = (
  (λ e. absurd cc),
  (λ k. sym c.if-not-add.true ∙ c.add.ensures.once ∙ line_once c.args.table.now (length c.args.used.now) c.requires c.args.refs.now k),
)

pub returns-then-none_free-clause-stands : goal.returns-then-none_free-clause-stands
returns-then-none_free-clause-stands c =
    line_says c.args.table.now (length c.args.used.now) c.requires c.args.refs.now c.in-Some.ends.0 c.in-Some.ends.1 true
    (sym c.add.ensures.once ∙ c.if-not-add.false) c.in-Some.ensures.some c.in-Some.ensures.runs (sym c.if-none_free.true ∙ c.none_free.ensures)

pub returns-then-none_free-clause-ends : goal.returns-then-none_free-clause-ends
returns-then-none_free-clause-ends c =
    run_line_ends c.args.table.now.arcs c.args.refs.now c.in-Some.ends.0 c.in-Some.ends.1 c.in-Some.ensures.some c.in-Some.ensures.runs

pub returns-clause-stands : goal.returns-clause-stands
returns-clause-stands c =
    line_says c.args.table.now (length c.args.used.now) c.requires c.args.refs.now c.in-Some.ends.0 c.in-Some.ends.1 false
    (sym c.add.ensures.once ∙ c.if-not-add.false) c.in-Some.ensures.some c.in-Some.ensures.runs (sym c.if-none_free.false ∙ c.none_free.ensures)
