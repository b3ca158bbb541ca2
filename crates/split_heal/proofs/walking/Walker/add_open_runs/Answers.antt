use Rattle.split_heal.specs.PseudoNodes.{partner_in}
use Rattle.split_heal.proofs.WalkedRuns.{all_started, started_start, started_step}
use Rattle.split_heal.proofs.walking.Walker.add_open_runs.Goals as goal

pub loop-arc-init : goal.loop-arc-init
loop-arc-init c = λ p w.
    started_start c.args.kept.now (partner_in c.args.meeting.now) p c.args.self.now.left c.args.self.now.runs.items w

pub loop-arc-preserved : goal.loop-arc-preserved
loop-arc-preserved c = λ p w.
    started_step c.args.kept.now (partner_in c.args.meeting.now) p c.loop-arc.arc c.loop-arc.self.left c.add_start.new.self.left c.add_start-in-loop-arc.new.self.left
    c.loop-arc.self.runs.items c.add_start.new.self.runs.items c.add_start-in-loop-arc.new.self.runs.items (c.loop-arc.invariant p w) c.in_ok-add_start.ensures c.in_ok-add_start-2.ensures

pub returns : goal.returns
returns c = λ p w.
    all_started c.args.kept.now (partner_in c.args.meeting.now) p c.loop-arc.arc c.loop-arc.self.left c.loop-arc.self.runs.items c.loop-arc-test.false (c.loop-arc.invariant p w)
