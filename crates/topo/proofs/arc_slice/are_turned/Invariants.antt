use Rattle.std.proofs.Common.{◌≡◌, ◌↔◌, drop, reverse}
use Rattle.topo.proofs.arc_slice.are_turned.Given as goal

abbrev pub invariant-loop-other : goal.invariant-loop-other
invariant-loop-other l = (reverse l.fn.positions ≡ l.fn.others) ↔ (reverse l.left ≡ drop l.other-index l.fn.others)
