use Rattle.reading.specs.FaultLists.Found.{pairs_of}
use Rattle.decimal_arcs.specs.Seen.{seen_arcs}
use Rattle.decimal_arcs.proofs.Table.{ReadTable}
use Rattle.decimal_arcs.proofs.arcs.read_arcs.Given as goal

abbrev pub invariant-loop-i : goal.invariant-loop-i
invariant-loop-i l = ReadTable l.fn.quantization l.fn.used l.fn.values l.i (pairs_of l.faults.items) (seen_arcs l.arcs.items)
