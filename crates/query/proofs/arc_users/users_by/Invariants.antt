use Rattle.std.proofs.Common.{◌≡◌, ◌++◌, drop, map}
use Rattle.query.specs.ArcUsers.{user_of}
use Rattle.query.proofs.arc_users.users_by.Given as goal

abbrev pub invariant-loop-used : goal.invariant-loop-used
invariant-loop-used l = l.users.items ++ map (user_of l.fn.classes) (drop l.used-index l.fn.uses) ≡ map (user_of l.fn.classes) l.fn.uses
