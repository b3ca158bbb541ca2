use Rattle.std.proofs.Common.{ap, ◌∙◌, Some}
use Rattle.std.specs.Option.{option_map}
use Rattle.arcs.proofs.Marks.{get_mapped}
use Rattle.lines.proofs.Dropping.{item_at}
use Rattle.compare.specs.Keyed.{id_of}
use Rattle.compare.proofs.keys.id_at.Goals as goal

pub returns : goal.returns
returns c =
    get_mapped id_of c.args.geometries.now c.args.number
    ∙ ap (option_map id_of) (item_at c.args.geometries.now c.args.number c.index-geometries-number.result c.requires c.index-geometries-number.is)
    ∙ ap (λ w. Some w.id) c.index-geometries-number.is
