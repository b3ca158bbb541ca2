use Rattle.std.proofs.Common.{◌≡◌, drop, take}
use Rattle.fixing.specs.Measures.{lies_started, mostly_inside}
use Rattle.fixing.proofs.measures.lies_in.Given as goal

abbrev pub invariant-loop-next : goal.invariant-loop-next
invariant-loop-next l =
    mostly_inside l.inside l.outside l.other l.here (drop l.next-index l.others) ≡ lies_started (take 9 l.fn.ring) l.fn.other
