use Rattle.std.proofs.Common.{◌≤◌, length}
use Rattle.decimal_topologies.specs.Stitching.{directed}
use Rattle.decimal_topologies.proofs.Stitches.{put_none, put_more, put_all-put, put_all-counted}
use Rattle.decimal_topologies.proofs.Tables.{directed-length}
use Rattle.decimal_topologies.proofs.stitching.put_along.Goals as goal

pub loop-i-init : goal.loop-i-init
loop-i-init c = put_none (directed c.args.backwards c.args.places.now) c.args.first c.args.found.now.items c.args.tally.now

pub loop-i-preserved : goal.loop-i-preserved
loop-i-preserved c =
    put_more (directed c.args.backwards c.args.places.now) c.args.first c.loop-i.i c.place_at-place.result _ _ _ _ _ _ c.place_at-place.ensures c.loop-i.invariant c.in_ok-keep.ensures.ok c.add_place.ensures

pub returns-clause-put : goal.returns-clause-put
returns-clause-put c =
    let ps = directed c.args.backwards c.args.places.now in
    let past : length ps ≤ c.loop-i.i = rw (directed-length c.args.backwards c.args.places.now) c.loop-i-test.false in
    put_all-put ps c.args.first c.loop-i.i _ _ _ _ past c.loop-i.invariant

pub returns-clause-counted : goal.returns-clause-counted
returns-clause-counted c =
    let ps = directed c.args.backwards c.args.places.now in
    let past : length ps ≤ c.loop-i.i = rw (directed-length c.args.backwards c.args.places.now) c.loop-i-test.false in
    put_all-counted ps c.args.first c.loop-i.i _ _ _ _ past c.loop-i.invariant
