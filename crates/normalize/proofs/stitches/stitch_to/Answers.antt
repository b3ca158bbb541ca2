use Rattle.std.proofs.Common.{subst, sym}
use Rattle.normalize.specs.Pieces.{StitchOn}
use Rattle.normalize.proofs.stitches.stitch_to.Goals as goal

pub loop-used-preserved : goal.loop-used-preserved
loop-used-preserved c =
    λ h.
    c.loop-used.invariant
    (subst (λ w. StitchOn c.args.table.now.arcs w c.loop-used.left.now) (sym c.in-Some.ensures.cases.0) (c.in-Some-rest_along.ensures c.in-Some.more.now h))
