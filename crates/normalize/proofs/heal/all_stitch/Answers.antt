use Rattle.std.proofs.Common.{◌≡◌, ◌+◌, ◌≤◌, ap, arith, length, ◌∙◌}
use Rattle.arcs.specs.Arcs.{Arcs}
use Rattle.normalize.proofs.Numbered.{behind, stitch_all, stitch_on}
use Rattle.normalize.proofs.heal.all_stitch.Goals as goal

pub loop-arc-preserved : goal.loop-arc-preserved
loop-arc-preserved c =
    let arcs = c.args.joined.now.arcs.arcs in
    let n = c.loop-arc.number in
    let rest = c.next.new.self in
    let (left, there) = behind n arcs rest c.in-Some.arc.now (c.loop-arc.invariant.left ∙ c.in-Some.ensures.steps) in
    record {
      left = left;
      within =
          let before = c.loop-arc.invariant.within in
          let longer = ap length c.in-Some.ensures.steps in omega (arith, before, longer);
      stitch = stitch_on c.args.table.now.arcs arcs c.args.joined.now.pieces n c.in-Some.arc.now there (c.stitches.ensures c.if-not-stitches.false) c.loop-arc.invariant.stitch;
    }

pub returns : goal.returns
returns c = λ _.
    let arcs = c.args.joined.now.arcs.arcs in
    let past : length arcs ≤ c.loop-arc.number =
    (let before = c.loop-arc.invariant.within in
    let none = ap length c.in-None.ensures.steps.0 in omega (arith, before, none)) in
    stitch_all c.args.table.now.arcs arcs c.args.joined.now.pieces c.loop-arc.number past c.loop-arc.invariant.stitch
