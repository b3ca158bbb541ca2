use Rattle.std.proofs.Common.{rules}
use Rattle.split_heal.specs.PseudoNodes.{partner_in}
use Rattle.split_heal.proofs.WalkedRuns.{runs_means}
use Rattle.split_heal.proofs.walking.runs_of.Goals as goal

pub returns : goal.returns
returns c =
    runs_means c.args.kept.now (partner_in c.args.meeting.now) c.in_ok-left.left c.add_single_runs.new.self.left c.add_open_runs.new.self.left
    c.new-runs.result.items c.add_single_runs.new.self.runs.items c.add_open_runs.new.self.runs.items c.add_round_runs.new.self.runs.items (search rules) (search rules)
    c.in_ok-add_single_runs.ensures c.in_ok-add_open_runs.ensures c.in_ok-add_round_runs.ensures
