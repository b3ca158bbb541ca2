-- A sink in memory.
use Rattle.std.specs.Prelude.{ℕ, ◌+◌, ◌<◌, Some, vec_len, vec_capacity}
use Rattle.sinks.specs.Seen.{Seen}
use Rattle.sinks.specs.declared.kept.Kept.{Kept}

-- what contracts see of a sink in memory
abbrev pub kept_seen : Kept → Seen
kept_seen k = record { bytes = Some k.bytes.items; failures = k.failures }

-- the sink can't take so many bytes more without memory
abbrev pub NeedsMemory : Kept → ℕ → Type 0
NeedsMemory k n = vec_capacity k.bytes < vec_len k.bytes + n
