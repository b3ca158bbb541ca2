use Rattle.std.proofs.Common.{◌≡◌, ◌++◌, map}
use Rattle.std.specs.Vec.Iter.{into_iter_items}
use Rattle.topo.specs.Rewritten.{layer_rewritten}
use Rattle.topo.proofs.rewritten.layers_rewritten.Given as goal

abbrev pub invariant-loop-layer : goal.invariant-loop-layer
invariant-loop-layer g l =
    l.made.items ++ map (layer_rewritten (g.L.NewLists.line_of l.fn.lists) (g.L.NewLists.ring_of l.fn.lists)) (into_iter_items l.layer-iterator)
    ≡ map (layer_rewritten (g.L.NewLists.line_of l.fn.lists) (g.L.NewLists.ring_of l.fn.lists)) l.fn.layers.items
