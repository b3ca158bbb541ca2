use Rattle.std.proofs.Common.{rules}
use Rattle.std.specs.Ordering.{is_lt}
use Rattle.std.proofs.lemmas.List.Sorted.{answers_always, ranks_by}
use Rattle.lines.specs.Positions.{position_total}
use Rattle.lines.specs.Turned.{position_cmp}
use Rattle.arcs.specs.declared.step.ArcStep.{ArcStep}
use Rattle.query.proofs.stops.sort_ends.Goals as goal

pub returns : goal.returns
returns c = record {
  permutation = c.sort_unstable_by.ensures.permutation;
  sorted = c.sort_unstable_by.ensures.sorted (λ d e. is_lt (position_cmp d.from e.from)) (ranks_by position_total (λ (e : ArcStep). e.from))
      (answers_always _ _ _ (λ f a r g h. search rules));
}
