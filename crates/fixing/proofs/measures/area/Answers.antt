use Rattle.std.proofs.Common.{FitsSigned, to_z, rules}
use Rattle.std.specs.Int.{int_wrap}
use Rattle.std.proofs.lemmas.Int.{wrapping_add_onto}
use Rattle.fixing.specs.Measures.{twice_area}
use Rattle.fixing.proofs.AreaSteps.{area_more, no_area}
use Rattle.fixing.proofs.measures.area.Goals as goal
use mir.Syntax.{w128}

pub returns-in_default : goal.returns-in_default
returns-in_default c = no_area c.args.closed.now c.in_default.ensures.cases

pub loop-next-preserved : goal.loop-next-preserved
loop-next-preserved c =
    let fits : FitsSigned w128 c.cross-area.result = search rules in
    area_more (to_z w128 c.loop-next.area-bits) _ c.cross-area.result (int_wrap w128 (twice_area c.args.closed.now)) c.in-Some.others.now c.loop-next.next-index c.loop-next.here
    c.next-item.result c.loop-next-test.true c.next-item.is c.cross-area.ensures
    (wrapping_add_onto w128 c.loop-next.area-bits c.cross-area.result (search rules) fits) c.loop-next.invariant
