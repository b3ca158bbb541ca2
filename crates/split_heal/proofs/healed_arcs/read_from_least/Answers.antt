use Rattle.std.proofs.Common.{◌≤◌, length, subst, sym}
use Rattle.split_heal.proofs.RunsAre.{least_within}
use Rattle.split_heal.proofs.healed_arcs.read_from_least.Goals as goal

pub rotate_left-requires : goal.rotate_left-requires
rotate_left-requires c =
    subst (λ w. c.index_of_least-place.result ≤ w) c.deref.ensures.len
    (subst (λ w. w ≤ length c.deref.result.now) (sym c.index_of_least-place.ensures) (least_within c.deref.result.now))
