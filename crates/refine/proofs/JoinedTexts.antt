-- A join is undone to the byte.
use Rattle.std.proofs.Common.{ap, subst}
use Rattle.topo.specs.OfMap.{IsOf, seen_parts}
use Rattle.topo.proofs.TopologyLaws.{is_computed}
use Rattle.topo_io.specs.TopologyText.{topology_text}
use Rattle.refine.specs.Removals.{JoinsAreUndone}
use Rattle.topo.proofs.LayerLawsLemmas.JoinUndone.{join_undone}

pub joins_are_undone : JoinsAreUndone
joins_are_undone m n apart t h =
    let k : IsOf m t = subst (λ l. IsOf l t) (join_undone m n apart) h in
    (k, ap topology_text (is_computed t.grid m (seen_parts t) k.topology))
