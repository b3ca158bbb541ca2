use Rattle.std.proofs.Common.{map, false, sym, subst, ap, ◌∙◌}
use Rattle.arcs.specs.Among.{among}
use Rattle.chains.specs.Pieces.{cut_inside, line_pieces}
use Rattle.arcs.specs.Pieces.{used, ArePieces}
use Rattle.chains.proofs.Oriented.{used_all}
use Rattle.chains.proofs.Cuts.{line_is_cut}
use Rattle.chains.proofs.TableOfMap.{line_good}
use Rattle.chains.proofs.cutting.cut_line.Goals as goal

pub returns-clause-stitch : goal.returns-clause-stitch
returns-clause-stitch c = λ g s l i. line_is_cut g s c.args.index.now i c.args.line.now.positions l (map used c.in_ok-pieces.pieces.items)
    (used_all false (cut_inside (among c.args.index.now) c.args.line.now.positions) c.in_ok-pieces.pieces.items (c.in_ok-pieces.ensures ∙ ap (line_pieces c.args.index.now) c.positions.ensures.positions))

pub returns-clause-pieces : goal.returns-clause-pieces
returns-clause-pieces c = λ g s l i. subst (ArePieces g) (sym (c.in_ok-pieces.ensures ∙ ap (line_pieces c.args.index.now) c.positions.ensures.positions)) (line_good g s c.args.index.now i c.args.line.now.positions l)
