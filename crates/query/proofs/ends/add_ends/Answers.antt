use Rattle.query.proofs.Ending.{two_ends}
use Rattle.query.proofs.ends.add_ends.Goals as goal

pub returns : goal.returns
returns c =
    two_ends c.add_end-2.result c.args.ends.now.items c.add_end.new.ends.items c.add_end-2.new.ends.items c.args.arc.now c.first_along.result c.first_against.result
    c.first_along.ensures c.first_against.ensures c.in_ok-add_end.ensures c.add_end-2.ensures
