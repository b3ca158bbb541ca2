use Rattle.std.proofs.Common.{◌≡◌, drop, None}
use Rattle.chains.specs.Walk.{links_in}
use Rattle.chains.specs.Links.{recorded_all}
use Rattle.grid.specs.declared.pos.Pos.{Pos}
use Rattle.chains.proofs.joining.links_of.Given as goal

abbrev pub invariant-loop-segment : goal.invariant-loop-segment
invariant-loop-segment l = (q : Pos) → recorded_all l.stops q (links_in l.links q) (drop l.segment-index l.segments) ≡ recorded_all l.stops q None l.segments
