-- A sink over a writer of std.
use Rattle.std.specs.Prelude.{None}
use Rattle.sinks.specs.Seen.{Seen}
use Rattle.sinks.specs.declared.tap.Tap.{Tap}

-- what contracts see of a sink over a writer: its failures, and not its bytes
abbrev pub tap_seen : {W : Type 0} → Tap W → Seen
tap_seen t = record { bytes = None; failures = t.failures }
