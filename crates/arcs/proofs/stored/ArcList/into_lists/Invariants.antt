use Rattle.std.proofs.Common.{◌≡◌, ◌++◌, map}
use Rattle.arcs.specs.Stored.{positions_of}
use Rattle.arcs.proofs.stored.ArcList.into_lists.Given as goal

abbrev pub invariant-loop-arc : goal.invariant-loop-arc
invariant-loop-arc l = l.lists.items ++ map positions_of l.arc-iterator ≡ map positions_of l.fn.self
