use Rattle.reading.specs.FaultLists.Found.{pairs_of}
use Rattle.decimal_arcs.proofs.Table.{ReadSteps}
use Rattle.decimal_arcs.proofs.arcs.read_steps.Given as goal

abbrev pub invariant-loop-i : goal.invariant-loop-i
invariant-loop-i l = ReadSteps l.fn.quantization l.fn.values l.i l.sums (pairs_of l.faults.items) l.places.items
