use Rattle.std.proofs.Common.{ap, ◌∙◌}
use Rattle.compare.specs.Compared.{geometries_from}
use Rattle.compare.proofs.Recutting.{answers_by_ids}
use Rattle.compare.proofs.comparison.Comparison.difference.Goals as goal

pub returns : goal.returns
returns c =
    answers_by_ids c.args.self.now c.args.pair c.geometries_at-old.result.now c.geometries_at-new.result.now c.difference_by_ids.result
    (c.geometries_at-old.ensures ∙ ap (λ ls. geometries_from ls c.args.pair.old) c.deref.ensures.value)
    (c.geometries_at-new.ensures ∙ ap (λ ls. geometries_from ls c.args.pair.new) c.deref-2.ensures.value) c.difference_by_ids.ensures
