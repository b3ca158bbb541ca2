use Rattle.std.proofs.Common.{◌∙◌, ap}
use Rattle.std.specs.List.{dedup}
use Rattle.std.proofs.lemmas.List.Filters.{dedup_is}
use Rattle.lines.proofs.Positions.{derived_is}
use Rattle.lines.proofs.trail.collapse.Goals as goal

pub returns : goal.returns
returns c = dedup_is _ _ _ c.dedup.ensures.filtered ∙ ap (λ same. dedup same c.args.positions.now.items) derived_is
