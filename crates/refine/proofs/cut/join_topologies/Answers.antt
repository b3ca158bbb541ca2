use Rattle.std.proofs.Common.{rules, subst, sym}
use Rattle.topo.specs.OfMap.{IsOf, IsOfSomeMap}
use Rattle.refine.proofs.cut.join_topologies.Goals as goal

pub returns-clause-right : goal.returns-clause-right
returns-clause-right c = subst IsOfSomeMap c.in_ok-share-2.ensures c.in_ok-topology.ensures.right

pub returns-clause-of_map : goal.returns-clause-of_map
returns-clause-of_map c = λ m n hm hn.
    c.in_ok-topology.ensures.of_map m n (subst (IsOf m) (sym c.in_ok-share.ensures) hm) (subst (IsOf n) (sym c.in_ok-share-2.ensures) hn)

pub returns-clause-other_grid : goal.returns-clause-other_grid
returns-clause-other_grid c =
    let same = c.is_on_grid_of.ensures.0 c.if-not-is_on_grid_of.false in
    (search rules, λ other. absurd (other same))
