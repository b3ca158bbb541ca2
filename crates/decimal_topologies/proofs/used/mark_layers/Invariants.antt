use Rattle.decimal_topologies.proofs.Marked.{Marks, layer_at, layers_at}
use Rattle.decimal_topologies.proofs.used.mark_layers.Given as goal

abbrev pub invariant-loop-name : goal.invariant-loop-name
invariant-loop-name l = Marks layer_at layers_at l.layers.entries l._name-iterator l.initial.used l.used
