use Rattle.std.proofs.Common.{◌≡◌, drop}
use Rattle.fixing.specs.Measures.{inside_from, is_inside}
use Rattle.fixing.proofs.measures.contains.Given as goal

abbrev pub invariant-loop-next : goal.invariant-loop-next
invariant-loop-next l = inside_from l.inside l.place l.here (drop l.next-index l.others) ≡ is_inside l.fn.closed l.place
