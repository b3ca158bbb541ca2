-- Those that are left are by powers exactly if all are.
use Rattle.std.proofs.Common.{◌≡◌, drop}
use Rattle.noshinka.specs.RoundOptions.{are_powers}
use Rattle.noshinka.proofs.round_options.are_powers.Given as goal

abbrev pub invariant-loop-scale : goal.invariant-loop-scale
invariant-loop-scale l = are_powers (drop l.scale-index l.scales) ≡ are_powers l.scales
