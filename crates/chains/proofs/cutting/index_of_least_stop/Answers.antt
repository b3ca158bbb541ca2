use Rattle.std.proofs.Common.{sym, ◌∙◌, arith}
use Rattle.arcs.specs.Among.{among}
use Rattle.lines.proofs.Dropping.{item_at}
use Rattle.chains.proofs.LoopStops.{no_stop_found, none_found}
use Rattle.chains.proofs.cutting.index_of_least_stop.Goals as goal

pub returns-then-at-ring-clause-is : goal.returns-then-at-ring-clause-is
returns-then-at-ring-clause-is g c = none_found (among (g.S.Stops.at c.args.stops.now)) c.args.ring.now c.index_of_start-at.result c.index_of_start-at.ensures c.if-at-ring.true

pub returns-else-is_stop-clause-is : goal.returns-else-is_stop-clause-is
returns-else-is_stop-clause-is g c =
    no_stop_found (among (g.S.Stops.at c.args.stops.now)) c.args.ring.now c.index_of_start-at.result c.index-ring-at.result c.index_of_start-at.ensures
    (item_at c.args.ring.now c.index_of_start-at.result c.index-ring-at.result (omega (arith, c.if-at-ring.false)) c.index-ring-at.is)
    (sym c.is_stop.ensures ∙ c.if-is_stop.false)
