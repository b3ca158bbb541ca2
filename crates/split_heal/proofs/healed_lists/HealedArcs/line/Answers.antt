use Rattle.split_heal.specs.Starts.{starts_by}
use Rattle.split_heal.proofs.NewLists.{line_read, healed_line_list}
use Rattle.split_heal.proofs.healed_lists.HealedArcs.line.Goals as goal

pub returns-clause-computed : goal.returns-clause-computed
returns-clause-computed c =
    line_read (starts_by c.args.self.now.pieces) c.args.used.now c.in_ok-refs.refs.items c.read_each.new.refs.items _ c.in_ok-refs.ensures.items c.in_ok-read_each.ensures

pub returns-clause-stitches : goal.returns-clause-stitches
returns-clause-stitches c =
    healed_line_list c.args.self.now.arcs.arcs c.args.self.now.pieces c.args.used.now c.read_each.new.refs.items
    (line_read (starts_by c.args.self.now.pieces) c.args.used.now c.in_ok-refs.refs.items c.read_each.new.refs.items _ c.in_ok-refs.ensures.items c.in_ok-read_each.ensures)
