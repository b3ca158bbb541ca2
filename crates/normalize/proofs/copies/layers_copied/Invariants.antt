use Rattle.std.proofs.Common.{◌≡◌, ◌++◌, drop, map}
use Rattle.topo.specs.Rewritten.{layer_rewritten}
use Rattle.normalize.proofs.copies.layers_copied.Given as goal

abbrev pub invariant-loop-layer : goal.invariant-loop-layer
invariant-loop-layer g l =
    l.made.items ++ map (layer_rewritten (g.L.NewLists.line_of l.fn.lists) (g.L.NewLists.ring_of l.fn.lists)) (drop l.layer-index l.fn.layers)
    ≡ map (layer_rewritten (g.L.NewLists.line_of l.fn.lists) (g.L.NewLists.ring_of l.fn.lists)) l.fn.layers
