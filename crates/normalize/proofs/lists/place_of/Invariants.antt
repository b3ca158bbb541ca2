use Rattle.std.proofs.Common.{◌≡◌, ◌+◌, drop}
use Rattle.normalize.specs.Lists.{place_of}
use Rattle.normalize.proofs.lists.place_of.Given as goal

abbrev pub invariant-loop-i : goal.invariant-loop-i
invariant-loop-i l = l.i + place_of l.fn.first (drop l.i l.fn.refs) ≡ place_of l.fn.first l.fn.refs
