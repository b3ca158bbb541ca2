use Rattle.std.proofs.Common.{◌≡◌, ◌++◌, arith, drop, length, take}
use Rattle.std.proofs.lemmas.Grind.{common_steps}
use Rattle.lines.specs.Turned.{position_cmp}
use Rattle.theory.specs.Healing.{healed_ring_list}
use Rattle.split_heal.specs.Starts.{starts_by}
use Rattle.split_heal.proofs.NewLists.{ring_says}
use Rattle.split_heal.proofs.healed_lists.HealedArcs.ring.Goals as goal

pub returns-clause-stitches : goal.returns-clause-stitches
returns-clause-stitches c =
    let turned = c.turn_ring.new.used in
    let e : take c.in_ok-refs.refs.len (turned ++ drop (length turned) c.in_ok-refs.refs.items) ≡ healed_ring_list position_cmp c.args.self.now.arcs.arcs (starts_by c.args.self.now.pieces) c.args.used.now =
    grind (arith, common_steps) in
    ring_says c.args.self.now.arcs.arcs c.args.self.now.pieces c.args.used.now _ e
