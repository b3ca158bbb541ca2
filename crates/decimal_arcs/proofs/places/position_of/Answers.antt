use Rattle.std.proofs.Common.{w64, ap, ◌∙◌}
use Rattle.std.proofs.lemmas.Int.{to_z-of_z}
use Rattle.reading.specs.Positions.{clamped}
use Rattle.reading.proofs.Positions.{number_reads}
use Rattle.decimal_arcs.proofs.Positions.{position_clamped}
use Rattle.decimal_arcs.proofs.places.position_of.Goals as goal

pub returns : goal.returns
returns c =
    let given = c.in-Some.ensures.given in
    position_clamped c.in-Some.position c.args.x c.args.y (given.0 ∙ number_reads c.clamp.result c.clamp.ensures.grid ∙ c.clamp.ensures.given ∙ ap clamped (to_z-of_z w64 c.args.x c.ranges.x))
    (given.1 ∙ number_reads c.clamp-2.result c.clamp-2.ensures.grid ∙ c.clamp-2.ensures.given ∙ ap clamped (to_z-of_z w64 c.args.y c.ranges.y))
