use Rattle.std.proofs.Common.{◌+◌, ◌∙◌, refl, sym, ap, drop}
use Rattle.std.specs.List.{dedup}
use Rattle.std.proofs.lemmas.List.Filters.{dedup_is}
use Rattle.lines.specs.Reading.{collapsed}
use Rattle.lines.specs.Turned.{position_cmp}
use Rattle.lines.proofs.Dropping.{drop_item}
use Rattle.lines.proofs.Positions.{derived_is}
use Rattle.fixing.specs.Cutting.{runs_left}
use Rattle.fixing.proofs.RunSteps.{all_means, none_means}
use Rattle.fixing.proofs.runs.runs_of.Goals as goal

pub returns-in_default : goal.returns-in_default
returns-in_default c =
    none_means c.new.result.items c.as_slice.result.now (collapsed position_cmp c.args.positions.items) c.new.ensures.items c.in_default.ensures.cases
    (c.as_slice.ensures.value ∙ dedup_is _ _ _ c.dedup.ensures.filtered ∙ ap (λ same. dedup same c.args.positions.items) derived_is)

pub loop-next-init : goal.loop-next-init
loop-next-init c = refl

pub loop-next-preserved : goal.loop-next-preserved
loop-next-preserved c =
    c.in_ok-go_on.ensures (drop (c.loop-next.next-index + 1) c.in-Some.others.now)
    ∙ ap (runs_left c.loop-next.way) (sym (drop_item c.in-Some.others.now c.loop-next.next-index c.next-item.result c.loop-next-test.true c.next-item.is))
    ∙ c.loop-next.invariant

pub returns : goal.returns
returns c =
    all_means c.into_runs.result (λ runs. runs.items) (runs_left c.loop-next.way) c.as_slice.result.now c.in-Some.others.now (collapsed position_cmp c.args.positions.items)
    c.loop-next.next-index c.in-Some.first.now c.into_runs.ensures c.loop-next-test.false (c.loop-next.invariant ∙ c.in_ok-way.ensures c.in-Some.others.now)
    c.in-Some.ensures.cases.0
    (c.as_slice.ensures.value ∙ dedup_is _ _ _ c.dedup.ensures.filtered ∙ ap (λ same. dedup same c.args.positions.items) derived_is)
