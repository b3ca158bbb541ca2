use Rattle.std.proofs.Common.{false}
use Rattle.split_heal.specs.PseudoNodes.{partner_in}
use Rattle.split_heal.proofs.WalkedRuns.{single_step}
use Rattle.split_heal.proofs.walking.Walker.add_single_runs.Goals as goal

pub loop-arc-preserved : goal.loop-arc-preserved
loop-arc-preserved c = λ p w.
    single_step c.args.kept.now (partner_in c.args.meeting.now) p c.loop-arc.self.left c.add_single.new.self.left
    c.loop-arc.self.runs.items c.add_single.new.self.runs.items (record { arc = c.loop-arc.arc; reversed = false }) (c.loop-arc.invariant p w) c.in_ok-add_single.ensures
