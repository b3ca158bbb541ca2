use Rattle.decimal_topologies.specs.Geometries.{parts_of}
use Rattle.decimal_topologies.proofs.Layered.{Made}
use Rattle.decimal_topologies.proofs.objects.make_layers.Given as goal

abbrev pub invariant-loop-name : goal.invariant-loop-name
invariant-loop-name l = Made (parts_of l.of.topology.now) l.of.rules.now l.layers.entries l.name-iterator l.found.items
