use Rattle.std.proofs.Common.{◌∙◌, ap}
use Rattle.std.specs.List.{dedup}
use Rattle.std.proofs.lemmas.List.Filters.{dedup_is}
use Rattle.lines.proofs.Positions.{derived_is}
use Rattle.lines.specs.Reading.{collapsed}
use Rattle.lines.specs.Turned.{position_cmp}
use Rattle.normalize.proofs.repeats.arc_without_repeats.Goals as goal

pub returns : goal.returns
returns c =
    c.from_vec.ensures ∙ dedup_is _ _ _ c.dedup.ensures.filtered ∙ ap (λ same. dedup same c.in_ok-positions.positions.items) derived_is ∙ ap (collapsed position_cmp) (c.in_ok-positions.ensures.items_if_clones_equal (λ x y e. e))
