use Rattle.std.proofs.Common.{◌≡◌}
use Rattle.refine.proofs.EditsDone.{AreDone}
use Rattle.refine.proofs.session.Session.apply_all.Given as goal

abbrev pub invariant-loop-place : goal.invariant-loop-place
invariant-loop-place l = record { grid : l.self.grid ≡ l.fn.self.grid; edits : AreDone l.fn.self.grid l.fn.self.map l.fn.edits l.place l.self.map }
