use Rattle.std.proofs.Common.{subst, sym}
use Rattle.std.specs.List.{AllByRecursion}
use Rattle.topo_io.specs.Stitching.{StitchToLine, StitchToRing}
use Rattle.topo_io.proofs.BodyLists.{lists_stitch}
use Rattle.topo_io.proofs.validity.parts.body_stitches.Goals as goal

pub returns-then-not-branch : goal.returns-then-not-branch
returns-then-not-branch c =
    let arcs = c.args.lists.now.arcs.now in
    record {
      yes = λ e. absurd cc;
      no = λ e w.
          c.in_ok-all_stitch.ensures.no c.if-not-branch.true
          (subst (AllByRecursion (StitchToLine arcs)) (sym c.lines.ensures) ((lists_stitch arcs c.args.body.now).0 w).0);
    }

pub returns : goal.returns
returns c =
    let arcs = c.args.lists.now.arcs.now in
    let by = lists_stitch arcs c.args.body.now in
    record {
      yes = λ e.
          by.1 (
            subst (AllByRecursion (StitchToLine arcs)) c.lines.ensures (c.in_ok-all_stitch.ensures.yes c.if-not-branch.false),
            subst (AllByRecursion (StitchToRing arcs)) c.rings.ensures (c.in_ok-all_stitch-2.ensures.yes e),
          );
      no = λ e w. c.in_ok-all_stitch-2.ensures.no e (subst (AllByRecursion (StitchToRing arcs)) (sym c.rings.ensures) (by.0 w).1);
    }
