use Rattle.std.proofs.Common.{◌≡◌, ap, sym, ◌∙◌, drop, ◌+◌, subst}
use Rattle.grid.specs.declared.pos.Pos.{Pos}
use Rattle.chains.specs.Walk.{links_in}
use Rattle.chains.specs.Links.{recorded, recorded_all}
use Rattle.lines.proofs.Dropping.{drop_item}
use Rattle.chains.proofs.joining.links_of.Goals as goal

pub loop-segment-preserved : goal.loop-segment-preserved
loop-segment-preserved c = λ q.
    let at : (Pos × Pos) → Type 0 = λ e.
    links_in c.link-in-loop-segment.new.links q
    ≡ recorded c.args.stops.now q (recorded c.args.stops.now q (links_in c.loop-segment.links q) e.0 e.1) e.1 e.0 in
    let made : at c.ends.result =
    c.in_ok-link-2.ensures q
    ∙ ap (λ o. recorded c.args.stops.now q o c.ends.result.1 c.ends.result.0) (c.in_ok-link.ensures q) in
    ap (λ o. recorded_all c.args.stops.now q o (drop (c.loop-segment.segment-index + 1) c.args.segments.now)) (subst at c.ends.ensures made)
    ∙ ap (recorded_all c.args.stops.now q (links_in c.loop-segment.links q))
    (sym (drop_item c.args.segments.now c.loop-segment.segment-index c.segment-item.result c.loop-segment-test.true c.segment-item.is))
    ∙ c.loop-segment.invariant q
