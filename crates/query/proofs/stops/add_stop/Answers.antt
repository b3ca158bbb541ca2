use Rattle.std.proofs.Common.{sym}
use Rattle.query.specs.Stops.{halts}
use Rattle.query.proofs.Sides.{stop_put, stop_left}
use Rattle.query.proofs.stops.add_stop.Goals as goal

pub returns-then-not-is_stop : goal.returns-then-not-is_stop
returns-then-not-is_stop c = λ q. stop_left c.args.stops.now.items (halts c.args.sides) c.args.vertex q (sym c.if-not-is_stop.ensures)

pub returns : goal.returns
returns c = λ q. stop_put c.args.stops.now.items c.push.new.self.items (halts c.args.sides) c.args.vertex q (sym c.if-not-is_stop.ensures) c.in_ok-push.ensures.items
