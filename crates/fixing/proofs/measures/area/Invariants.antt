use Rattle.std.proofs.Common.{◌≡◌, ◌+ℤ◌, drop}
use Rattle.std.specs.Int.{int_wrap}
use Rattle.fixing.specs.Measures.{twice_area, area_from}
use Rattle.fixing.proofs.measures.area.Given as goal
use mir.Syntax.{w128}

abbrev pub invariant-loop-next : goal.invariant-loop-next
invariant-loop-next l = int_wrap w128 (l.area +ℤ area_from l.here (drop l.next-index l.others)) ≡ int_wrap w128 (twice_area l.fn.closed)
