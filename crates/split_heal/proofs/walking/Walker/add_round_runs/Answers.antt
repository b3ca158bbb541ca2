use Rattle.split_heal.specs.PseudoNodes.{partner_in}
use Rattle.split_heal.proofs.WalkedRuns.{all_walked, rounded_start, rounded_step}
use Rattle.split_heal.proofs.walking.Walker.add_round_runs.Goals as goal

pub loop-arc-init : goal.loop-arc-init
loop-arc-init c = λ p w e.
    rounded_start c.args.kept.now (partner_in c.args.meeting.now) p c.args.self.now.left c.args.self.now.runs.items w e

pub loop-arc-preserved : goal.loop-arc-preserved
loop-arc-preserved c = λ p w e.
    rounded_step c.args.kept.now (partner_in c.args.meeting.now) p c.loop-arc.arc c.loop-arc.self.left c.add_run.new.self.left
    c.loop-arc.self.runs.items c.add_run.new.self.runs.items (c.loop-arc.invariant p w e) c.in_ok-add_run.ensures

pub returns : goal.returns
returns c = λ p w e.
    all_walked c.args.kept.now (partner_in c.args.meeting.now) p c.loop-arc.arc c.loop-arc.self.left c.loop-arc.self.runs.items c.loop-arc-test.false (c.loop-arc.invariant p w e)
