use Rattle.std.proofs.Common.{map, refl}
use Rattle.arcs.specs.Table.{located}
use Rattle.split_heal.proofs.Heals.{heal_is}
use Rattle.split_heal.proofs.healing.heal.Goals as goal

pub returns : goal.returns
returns c =
    let joined = c.in_ok-joined.joined in
    let made = c.in_ok-made.made in
    let both =
    heal_is c.args.old.now c.args.kept.now c.args.ends.now c.in_ok-chosen.chosen.items c.deref.result.now c.in_ok-chosen.ensures c.deref.ensures.value
    c.in_ok-meeting.meeting c.in_ok-meeting.ensures
    c.in_ok-runs.runs.items c.in_ok-runs.ensures
    joined.pieces.items joined.lists.items c.in_ok-joined.ensures.pieces c.in_ok-joined.ensures.lists
    made.arcs c.in_ok-made.ensures.arcs c.in_ok-made.ensures.loops
    (map (located made.arcs.arcs) joined.pieces.items) _ refl refl _ refl
    made.pieces c.in_ok-made.ensures.pieces made refl in
    record { refined = both.0; pieces = both.1 }
