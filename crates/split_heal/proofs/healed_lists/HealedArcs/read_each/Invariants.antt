use Rattle.std.proofs.Common.{◌≡◌, ◌++◌, List, drop}
use Rattle.theory.specs.ArcNumbers.{ArcRef}
use Rattle.theory.specs.Healing.{healed_list}
use Rattle.split_heal.specs.Starts.{starts_by}
use Rattle.split_heal.proofs.healed_lists.HealedArcs.read_each.Given as goal

abbrev pub invariant-loop-arc : goal.invariant-loop-arc
invariant-loop-arc l = (rest : List ArcRef) → l.refs.items ++ healed_list (starts_by l.fn.self.pieces) l.left (drop l.arc-index l.fn.used ++ rest) ≡ l.fn.refs.items ++ healed_list (starts_by l.fn.self.pieces) l.fn.skip (l.fn.used ++ rest)
