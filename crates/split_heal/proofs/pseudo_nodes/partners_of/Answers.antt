use Rattle.arcs.proofs.Merged.{emptied}
use Rattle.split_heal.specs.ArcUseMap.{recorded_of}
use Rattle.split_heal.proofs.Pairing.{pairing_over, pairing_starts, pairing_step}
use Rattle.split_heal.proofs.pseudo_nodes.partners_of.Goals as goal

pub loop-first-init : goal.loop-first-init
loop-first-init c = λ g. pairing_starts c.args.stops.now c.args.ends.now (recorded_of c.in_ok-partners.partners) g c.in_ok-partners.ensures

pub loop-first-preserved : goal.loop-first-preserved
loop-first-preserved c = λ g.
    pairing_step c.args.stops.now c.args.ends.now c.loop-first.left.now c.in-Some.others.now c.in-Some.first.now c.count_of.result c.split_at.result.0.now c.split_at.result.1.now
    (recorded_of c.loop-first.partners) (recorded_of c.link_where_two_meet.new.partners) c.in-Some.ensures.cases.0 c.count_of.ensures.count c.split_at.ensures.front c.split_at.ensures.back c.in_ok-link_where_two_meet.ensures (c.loop-first.invariant g)

pub returns : goal.returns
returns c = λ g. pairing_over c.args.stops.now c.args.ends.now c.loop-first.left.now (recorded_of c.loop-first.partners) (emptied c.loop-first.left.now c.in_default.ensures.cases) (c.loop-first.invariant g)
