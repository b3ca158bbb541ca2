use Rattle.std.proofs.Common.{sym, subst}
use Rattle.theory.specs.LinesAndRings.{IsLine}
use Rattle.lines.proofs.Codes.{line_is}
use Rattle.lines.proofs.line.Line.from_sound.Goals as goal

pub invariant_of-result : goal.invariant_of-result
invariant_of-result c = record {
  line = subst IsLine (sym c.from_vec.ensures) (line_is c.args.positions.items c.collapse.new.positions.items c.collapse.ensures c.requires);
}
