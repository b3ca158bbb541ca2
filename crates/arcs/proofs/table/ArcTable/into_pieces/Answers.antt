use Rattle.std.proofs.Common.{◌∙◌, ap}
use Rattle.arcs.specs.Placing.{whole_pieces}
use Rattle.arcs.proofs.PlacedPieces.{owned}
use Rattle.arcs.proofs.table.ArcTable.into_pieces.Goals as goal

pub returns : goal.returns
returns c = c.in_ok-pieces.ensures ∙ owned c.self.inside.arcs c.self.invariant.rising ∙ ap whole_pieces c.self.view_is
