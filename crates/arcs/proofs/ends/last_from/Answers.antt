use Rattle.arcs.proofs.EndsAlong.{last_means}
use Rattle.arcs.proofs.ends.last_from.Goals as goal

pub returns-in-Some : goal.returns-in-Some
returns-in-Some g c = last_means c.args.first c.in-Some.last.now c.args.others.now c.in-Some.ensures.value
