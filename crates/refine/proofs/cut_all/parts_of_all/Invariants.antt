use Rattle.std.proofs.Common.{◌++◌, List}
use Rattle.arcs.specs.Arcs.{Arcs}
use Rattle.topo.specs.Parts.{LayerParts}
use Rattle.refine.specs.ManyLayers.{ArePartsOfAll, layers_in, maps_of}
use Rattle.refine.proofs.cut_all.parts_of_all.Given as goal

abbrev pub invariant-loop-shard : goal.invariant-loop-shard
invariant-loop-shard l = (ts : List Arcs) (ls : List (List LayerParts)) → ArePartsOfAll (maps_of l.shard-iterator.rest.items) ts ls →
    ArePartsOfAll (maps_of l.fn.shards.items) (l.tables.items ++ ts) (layers_in l.lists.items ++ ls)
