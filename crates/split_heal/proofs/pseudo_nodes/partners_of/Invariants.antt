use Rattle.std.proofs.Common.{length}
use Rattle.split_heal.specs.ArcUseMap.{recorded_of}
use Rattle.split_heal.specs.PseudoNodes.{AreGrouped}
use Rattle.split_heal.proofs.Pairing.{Paired}
use Rattle.split_heal.proofs.pseudo_nodes.partners_of.Given as goal

abbrev pub invariant-loop-first : goal.invariant-loop-first
invariant-loop-first l = AreGrouped l.fn.ends → Paired l.fn.stops l.fn.ends l.left (recorded_of l.partners)

abbrev pub decreases-loop-first : goal.decreases-loop-first
decreases-loop-first l = length l.left
