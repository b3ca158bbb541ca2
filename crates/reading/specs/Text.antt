-- The value of a text, and the faults of a text.
use Rattle.std.specs.Prelude.{ℕ, List, [], Option, Some, None, if◌then◌else◌}
use Rattle.std.specs.Str.{is_utf8}
use Rattle.serde_json.specs.Data.{Data}
use Rattle.serde_json.specs.Read.{read}
use Rattle.faults.specs.Fault.{Pair}
use Rattle.faults.specs.declared.fault.FaultKind.TheVariants.{NotJson}
use Rattle.reading.specs.Fault.{here}

-- the value that the bytes are, if they are UTF-8 and JSON [RFC 7946, 3; TopoJSON, 2; own]
abbrev pub document : List ℕ → Option Data
document bytes = if is_utf8 bytes then read bytes else None

-- the one fault of bytes that are no JSON text, else the faults of their value [RFC 7946, 3; TopoJSON, 2; own]
abbrev pub text_faults : (Data → List Pair) → Option Data → List Pair
text_faults of None = here NotJson
text_faults of (Some d) = of d

-- what the value says, nothing where there is none
abbrev pub said_of : {X : Type 0} → (Data → List X) → Option Data → List X
said_of of None = []
said_of of (Some d) = of d
