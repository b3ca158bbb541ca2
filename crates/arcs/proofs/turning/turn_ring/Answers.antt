use Rattle.std.proofs.Common.{◌≤◌, length, refl, subst, sym}
use Rattle.arcs.proofs.TurnedLists.{index_within, turned_by_code}
use Rattle.arcs.proofs.turning.turn_ring.Goals as goal

pub rotate_left-requires : goal.rotate_left-requires
rotate_left-requires c = subst (λ w. w ≤ length c.args.used.now) (sym c.index_of_least-index.ensures) (index_within c.args.arcs.now.arcs c.args.used.now)

pub returns : goal.returns
returns c = turned_by_code c.args.arcs.now.arcs c.args.used.now c.args.used.now _ c.index_of_least-index.result c.index_of_least-index.ensures c.rotate_left.ensures.after refl
