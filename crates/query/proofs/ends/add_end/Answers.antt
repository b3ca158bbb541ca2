use Rattle.query.proofs.Ending.{put_end}
use Rattle.query.proofs.ends.add_end.Goals as goal

pub returns : goal.returns
returns c = put_end c.args.ends.now.items c.push.new.self.items c.args.end c.in-Some.found c.in-Some.is c.in_ok-push.ensures.items
