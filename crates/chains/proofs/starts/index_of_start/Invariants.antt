use Rattle.std.proofs.Common.{◌≡◌, ◌+◌, drop}
use Rattle.chains.specs.Starts.{least_from, start_index, starts_from}
use Rattle.arcs.specs.Among.{among}
use Rattle.chains.proofs.starts.index_of_start.Given as goal

abbrev pub invariant-loop-i : goal.invariant-loop-i
invariant-loop-i g l =
    least_from l.place l.best (l.i + 1) (starts_from (among (g.S.Stops.at l.fn.stops)) l.first l.here (drop l.i l.rest))
    ≡ start_index (among (g.S.Stops.at l.fn.stops)) l.fn.ring
