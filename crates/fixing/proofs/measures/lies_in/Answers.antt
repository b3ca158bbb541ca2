use Rattle.std.proofs.Common.{◌∙◌, sym, ap}
use Rattle.std.proofs.lemmas.List.{drop_all}
use Rattle.fixing.specs.Measures.{mostly_inside}
use Rattle.fixing.proofs.CrossSteps.{started_means, none_started}
use Rattle.fixing.proofs.measures.lies_in.Goals as goal

pub returns-in_default : goal.returns-in_default
returns-in_default c =
    none_started c.args.ring.now c.args.other.now c.split_at.result.0.now c.min.result c.split_at.ensures.front c.min.ensures c.in_default.ensures.cases

pub returns : goal.returns
returns c =
    started_means c.args.ring.now c.args.other.now _
    (ap (mostly_inside c.loop-next.inside c.loop-next.outside c.args.other.now c.loop-next.here)
    (sym (drop_all c.loop-next.next-index c.in-Some.others.now c.loop-next-test.false))
    ∙ c.loop-next.invariant)
