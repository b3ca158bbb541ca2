use Rattle.topo.proofs.Pairs.{all_made, one_more, pair_at}
use Rattle.topo.proofs.stitching.each_stitched.Goals as goal

pub stitch-requires : goal.stitch-requires
stitch-requires g c =
    let (x, _, r) =
    pair_at (g.S.Stitch.stitches_by c.args.arcs.now.arcs) c.requires.0 c.args.lists.now c.loop-used.used-index c.used-item.result c.requires.1 c.loop-used-test.true c.used-item.is in
    (x, r)

pub loop-used-preserved : goal.loop-used-preserved
loop-used-preserved g c = λ ss h.
    one_more (g.S.Stitch.stitches_by c.args.arcs.now.arcs) ss c.args.lists.now c.loop-used.made.items c.push.new.self.items c.in_ok-stitch.field-0 c.loop-used.used-index c.used-item.result h
    c.loop-used-test.true c.used-item.is c.in_ok-stitch.ensures (c.loop-used.invariant ss h) c.in_ok-push.ensures.items

pub returns : goal.returns
returns g c = λ ss h.
    all_made (g.S.Stitch.stitches_by c.args.arcs.now.arcs) ss c.args.lists.now c.loop-used.made.items c.loop-used.used-index h c.loop-used-test.false (c.loop-used.invariant ss h)
