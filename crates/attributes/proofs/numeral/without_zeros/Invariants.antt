use Rattle.std.proofs.Common.{◌≡◌, ◌≤◌, length}
use Rattle.attributes.specs.Numerals.{zeros_cut}
use Rattle.attributes.proofs.numeral.without_zeros.Given as goal

abbrev pub invariant-loop-kept : goal.invariant-loop-kept
invariant-loop-kept l = record {
  within : l.kept ≤ length l.bytes;
  same : zeros_cut l.bytes l.kept ≡ zeros_cut l.bytes (length l.bytes);
}

abbrev pub decreases-loop-kept : goal.decreases-loop-kept
decreases-loop-kept l = l.kept
