use Rattle.split_heal.specs.PseudoNodes.{partner_in}
use Rattle.split_heal.specs.Walks.{ArePaired, AreWalked}
use Rattle.split_heal.proofs.walking.Walker.add_single_runs.Given as goal

abbrev pub invariant-loop-arc : goal.invariant-loop-arc
invariant-loop-arc l =
    ArePaired l.fn.kept (partner_in l.fn.meeting) → AreWalked l.fn.kept (partner_in l.fn.meeting) l.fn.self.left l.fn.self.runs.items →
    AreWalked l.fn.kept (partner_in l.fn.meeting) l.self.left l.self.runs.items
