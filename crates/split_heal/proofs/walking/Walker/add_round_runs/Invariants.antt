use Rattle.split_heal.specs.PseudoNodes.{partner_in}
use Rattle.split_heal.specs.Walks.{ArePaired, AreWalked, EndsGone}
use Rattle.split_heal.proofs.WalkedRuns.{Rounded}
use Rattle.split_heal.proofs.walking.Walker.add_round_runs.Given as goal

abbrev pub invariant-loop-arc : goal.invariant-loop-arc
invariant-loop-arc l =
    (p : ArePaired l.fn.kept (partner_in l.fn.meeting)) → AreWalked l.fn.kept (partner_in l.fn.meeting) l.fn.self.left l.fn.self.runs.items →
    EndsGone l.fn.kept (partner_in l.fn.meeting) l.fn.self.left →
    Rounded l.fn.kept (partner_in l.fn.meeting) p l.arc l.self.left l.self.runs.items
