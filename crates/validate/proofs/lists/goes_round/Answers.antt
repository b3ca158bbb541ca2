use Rattle.validate.proofs.Listing.{goes_means}
use Rattle.validate.proofs.lists.goes_round.Goals as goal

pub returns-in-Some : goal.returns-in-Some
returns-in-Some c =
    goes_means c.args.table.now.arcs c.args.refs.now c.in-Some.start c.in-Some.end c.eq.result c.in-Some.ensures.runs c.in-Some.ensures.some c.eq.ensures
