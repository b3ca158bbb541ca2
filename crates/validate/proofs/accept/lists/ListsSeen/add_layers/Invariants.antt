use Rattle.std.proofs.Common.{◌≡◌, Bool, drop, length}
use Rattle.validate.specs.Accept.Added.{AreAdded}
use Rattle.validate.specs.Accept.Lists.{layers_lines, layers_rings}
use Rattle.validate.specs.declared.accept.lists.ListsSeen.{ListsSeen}
use Rattle.validate.proofs.accept.lists.ListsSeen.add_layers.Given as goal

abbrev pub invariant-loop-layer : goal.invariant-loop-layer
invariant-loop-layer l = record {
  len : length l.self.used ≡ length l.fn.table.arcs;
  rest : (b : Bool) (s : ListsSeen) → AreAdded l.fn.table (layers_lines (drop l.layer-index l.fn.layers)) (layers_rings (drop l.layer-index l.fn.layers)) b l.self s → AreAdded l.fn.table (layers_lines l.fn.layers) (layers_rings l.fn.layers) b l.fn.self s;
}
