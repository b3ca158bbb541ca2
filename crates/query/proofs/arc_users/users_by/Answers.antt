use Rattle.std.proofs.Common.{arith, map, ◌≡◌}
use Rattle.std.proofs.lemmas.Grind.{common_steps}
use Rattle.query.specs.ArcUsers.{user_of}
use Rattle.query.proofs.ArcUsers.{are_users, in_order}
use Rattle.query.proofs.arc_users.users_by.Goals as goal

pub returns : goal.returns
returns c =
    let is : c.loop-used.users.items ≡ map (user_of c.args.classes.now) c.args.uses.now = grind (arith, common_steps) in record {
      order = in_order _ c.sort_unstable.ensures.sorted;
      users = are_users c.args.classes.now c.args.uses.now _ _ is c.sort_unstable.ensures.permutation;
    }
