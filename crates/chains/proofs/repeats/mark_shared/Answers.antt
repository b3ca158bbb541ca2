use Rattle.std.proofs.Common.{[]}
use Rattle.theory.specs.Lists.{gathered}
use Rattle.lines.specs.PositionFilter.{may_hold}
use Rattle.chains.specs.ManyTables.{vertices_once}
use Rattle.chains.proofs.MetVertices.{all_met, none_met_yet}
use Rattle.chains.proofs.repeats.mark_shared.Goals as goal

pub returns : goal.returns
returns c =
    let all = gathered vertices_once c.args.pieces.now in
    record {
      may = may_hold c.add_pieces.new.self.again;
      twice = all_met c.add_pieces.new.self all (c.add_pieces.ensures all [] (none_met_yet _ all));
      marks_are = c.in_ok-marks.ensures;
    }
