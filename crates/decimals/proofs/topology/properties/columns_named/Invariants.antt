use Rattle.std.proofs.Common.{◌≡◌, ℕ, List, drop, is_some}
use Rattle.std.specs.BTreeMap.{get_by_text}
use Rattle.std.specs.Prelude.{◌||◌}
use Rattle.decimals.specs.Topology.LayersBack.{is_named}
use Rattle.decimals.proofs.topology.properties.columns_named.Given as goal

abbrev pub invariant-loop-name : goal.invariant-loop-name
invariant-loop-name l = (q : List ℕ) → (is_some (get_by_text l.named q) || is_named (drop l.name-index l.names) q) ≡ is_named l.names q
