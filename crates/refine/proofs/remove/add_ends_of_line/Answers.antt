use Rattle.std.proofs.Common.{◌∙◌, sym}
use Rattle.topo.specs.Walked.{walked}
use Rattle.topo.proofs.LayerLawsLemmas.LeftEnds.{recorded_ends}
use Rattle.refine.proofs.remove.add_ends_of_line.Goals as goal

pub returns : goal.returns
returns c =
    recorded_ends (walked c.args.topology.now.arcs.arcs c.args.used.now) c.next.new.self c.next_back.new.self c.args.ends.now.items c.push.new.self.items c.push-2.new.self.items
    c.in-Some.first.now c.in-Some-next_back.last.now (sym c.walk-walk.ensures.walked ∙ c.in-Some.ensures.steps) c.in-Some-next_back.ensures.steps c.in_ok-push.ensures.items
    c.in_ok-push-2.ensures.items
