use Rattle.reading.specs.FaultLists.Found.{pairs_of}
use Rattle.decimal_topologies.specs.Geometries.{parts_of}
use Rattle.decimal_topologies.proofs.Layered.{Judged}
use Rattle.decimal_topologies.proofs.objects.judge_layers.Given as goal

abbrev pub invariant-loop-name : goal.invariant-loop-name
invariant-loop-name l = Judged (parts_of l.of.topology.now) l.of.rules.now l.fixing l.layers.entries l.name-iterator (pairs_of l.found.items)
