use Rattle.topologies_tests.proofs.renumbering_tests.all_ascend.Goals as goal

pub loop-geometry-init : goal.loop-geometry-init
loop-geometry-init c = record { recorded = c.new-order.ensures c.args.arcs.now.arcs; there = c.requires.there }
