use Rattle.std.proofs.Common.{◌≡◌, ◌++◌, length}
use Rattle.topo.specs.LayerLaws.CutLayers.{before, behind, layer_cmp, tied}
use Rattle.refine.proofs.cut.put_layers_before.Given as goal

abbrev pub invariant-loop-others : goal.invariant-loop-others
invariant-loop-others l = record {
  all : l.merged.items ++ before layer_cmp l.fn.layer l.others.items ≡ l.fn.merged.items ++ before layer_cmp l.fn.layer l.fn.others.items;
  rest : behind layer_cmp l.fn.layer l.others.items ≡ behind layer_cmp l.fn.layer l.fn.others.items;
  same : tied layer_cmp l.fn.layer l.others.items ≡ tied layer_cmp l.fn.layer l.fn.others.items;
}

abbrev pub decreases-loop-others : goal.decreases-loop-others
decreases-loop-others l = length l.others.items
