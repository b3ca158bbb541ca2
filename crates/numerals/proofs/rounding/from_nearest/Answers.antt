use Rattle.std.proofs.Common.{◌∙◌}
use Rattle.numerals.proofs.Ceilings.{distance_is}
use Rattle.numerals.proofs.rounding.from_nearest.Goals as goal
use Rattle.numerals.proofs.rounding.from_nearest.Goals.{then-is_exact, else-is_exact}

pub returns : goal.returns
returns c n d some h =
    c.min.ensures ∙ distance_is n d c.args.parts c.if-is_exact.after c.args.is_exact some c.requires h
    (elim c.if-is_exact.branch [ then-is_exact w ↦ rw w.if-is_exact.true w.after-is | else-is_exact w ↦ rw w.if-is_exact.false w.after-is ])
