use Rattle.std.proofs.Common.{subst, sym}
use Rattle.theory.specs.ArcNumbers.{StitchTo}
use Rattle.arcs.proofs.ReplacedArcs.{at_some}
use Rattle.normalize.proofs.heal.stitches.Goals as goal

pub returns-in-Some : goal.returns-in-Some
returns-in-Some c = λ e.
    subst (λ w. StitchTo c.args.table.now.arcs w c.args.arc.now) (sym (at_some c.args.joined.now.pieces c.args.number c.in-Some.pieces.now c.in-Some.ensures)) (c.stitch_to.ensures e)
