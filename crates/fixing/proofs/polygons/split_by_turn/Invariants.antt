use Rattle.std.proofs.Common.{◌≡◌, ◌++◌, not}
use Rattle.theory.specs.TopologyFunction.{keep}
use Rattle.fixing.specs.Polygons.{turns_to}
use Rattle.fixing.proofs.polygons.split_by_turn.Given as goal

abbrev pub invariant-loop-ring : goal.invariant-loop-ring
invariant-loop-ring l = record {
  outers : l.outers.items ++ keep (turns_to l.counterclockwise) l.ring-iterator.rest.items ≡ keep (turns_to l.counterclockwise) l.fn.loops.items;
  others : l.others.items ++ keep (λ ring. not (turns_to l.counterclockwise ring)) l.ring-iterator.rest.items
      ≡ keep (λ ring. not (turns_to l.counterclockwise ring)) l.fn.loops.items;
}
