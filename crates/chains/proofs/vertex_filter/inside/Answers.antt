use Rattle.std.proofs.Common.{◌∙◌, ap, sym, false}
use Rattle.chains.specs.VertexFilter.{inside}
use Rattle.chains.proofs.TablesAsMap.{unclosed_rest}
use Rattle.chains.proofs.vertex_filter.inside.Goals as goal

pub returns-in-Some-split_last : goal.returns-in-Some-split_last
returns-in-Some-split_last c =
    sym
    (ap (λ b. inside b c.args.arc.now) c.if-free.false
    ∙ ap (inside false) c.in-Some.ensures.cases.0
    ∙ unclosed_rest c.in-Some.others.now c.in-Some-split_last.inner.now c.in-Some-split_last.field-0-0.now c.in-Some-split_last.ensures.cases.0)
