-- A sink that gathers bytes for a writer of std.
use Rattle.std.specs.Prelude.{ℕ, List, Option, None}
use Rattle.std.specs.Io.KnownBytes.{append_known}
use Rattle.sinks.specs.Seen.{Seen}
use Rattle.sinks.specs.declared.buffered.Buffered.{Buffered}

-- what contracts see of the sink: its failures, and not its bytes
abbrev pub buffered_seen : {W : Type 0} → Buffered W → Seen
buffered_seen b = record { bytes = None; failures = b.failures }

-- the bytes that the writer took, where they are known, and then those that are held for it
abbrev pub taken_and_held : {W : Type 0} → (W → Option (List ℕ)) → Buffered W → Option (List ℕ)
taken_and_held contents b = append_known (contents b.writer) b.bytes.items
