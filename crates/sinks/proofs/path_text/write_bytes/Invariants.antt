use Rattle.std.proofs.Common.{length}
use Rattle.sinks.specs.Writes.{TookUpTo}
use Rattle.sinks.specs.PathText.PathText.{bytes_text}
use Rattle.sinks.proofs.path_text.write_bytes.Given as goal

abbrev pub invariant-loop-byte : goal.invariant-loop-byte
invariant-loop-byte g l = TookUpTo (g.W.Sink.seen l.initial.sink) (g.W.Sink.seen l.sink) (bytes_text l.bytes) (bytes_text l.left)

abbrev pub decreases-loop-byte : goal.decreases-loop-byte
decreases-loop-byte g l = length l.left
