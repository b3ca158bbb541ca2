use Rattle.std.proofs.Common.{◌≡◌, take, drop, rules}
use Rattle.split_heal.specs.Starts.{first_place, starts_by}
use Rattle.split_heal.proofs.NewLists.{round_read}
use Rattle.split_heal.proofs.healed_lists.HealedArcs.read_round.Goals as goal

pub returns : goal.returns
returns c =
    let s = starts_by c.args.self.now.pieces in
    let before : c.split_at.result.0.now ≡ take (first_place s c.args.used.now) c.args.used.now = search rules in
    let others : c.split_at.result.1.now ≡ drop (first_place s c.args.used.now) c.args.used.now = search rules in
    round_read s c.args.used.now c.split_at.result.0.now c.split_at.result.1.now c.in_ok-refs.refs.items c.read_each.new.refs.items c.read_each-2.new.refs.items _ _
    before others c.in_ok-refs.ensures.items c.in_ok-skip.ensures c.in_ok-read_each.ensures
