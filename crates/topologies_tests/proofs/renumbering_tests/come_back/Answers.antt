use Rattle.topologies_tests.proofs.renumbering_tests.come_back.Goals as goal

pub sort-requires : goal.sort-requires
sort-requires c = record { recorded = c.new.ensures c.args.arcs.now.arcs }
