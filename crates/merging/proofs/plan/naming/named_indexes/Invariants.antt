use Rattle.std.proofs.Common.{◌≡◌, ◌+◌, ◌++◌, length, false, replicate}
use Rattle.std.specs.Prelude.{All}
use Rattle.std.specs.List.{flat_map, sum_by}
use Rattle.merging.specs.Leaves.{leaves, HasIndexes}
use Rattle.merging.specs.Naming.{marked}
use Rattle.merging.proofs.PlanSizes.{size}
use Rattle.merging.proofs.plan.naming.named_indexes.Given as goal

abbrev pub invariant-loop-rest : goal.invariant-loop-rest
invariant-loop-rest l = record {
  marks_of : marked l.marks.items (flat_map (λ p. leaves p.now) l.waiting.items ++ leaves l.rest) ≡ marked (replicate l.count false) (leaves l.plan);
  long : length l.marks.items ≡ l.count;
  indexes : HasIndexes l.count l.rest;
  waiting_indexes : All (λ p. HasIndexes l.count p.now) l.waiting.items;
}

abbrev pub decreases-loop-rest : goal.decreases-loop-rest
decreases-loop-rest l = sum_by (λ p. size p.now) l.waiting.items + size l.rest
