use Rattle.std.proofs.Common.{◌≡◌, ◌++◌, drop}
use Rattle.decimals.specs.Topology.QuantizedAxis.{AreFew}
use Rattle.decimals.specs.Topology.Quantizing.{numbers_on, steps_from}
use Rattle.decimals.proofs.topology.quantizer.Quantizer.add_steps.Given as goal

abbrev pub invariant-loop-position : goal.invariant-loop-position
invariant-loop-position l = record {
  few : AreFew l.before;
  steps : l.steps.items ++ steps_from (numbers_on l.self) l.before (drop l.position-index l.others)
      ≡ l.initial.steps.items ++ steps_from (numbers_on l.self) l.fn.first l.others;
}
