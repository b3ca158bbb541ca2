use Rattle.std.proofs.Common.{◌≡◌, ◌↔◌, rules, subst, true}
use Rattle.arcs.specs.Table.{same_list}
use Rattle.topo.proofs.Runs.{part_same}
use Rattle.topo.proofs.arc_slice.ArcSlice.is_along.Goals as goal

pub returns-else-self : goal.returns-else-self
returns-else-self c =
    let same : c.eq.result ≡ same_list c.self.inside.positions.now c.args.positions.now = search rules in
    subst (λ l. (c.eq.result ≡ true) ↔ (l ≡ c.args.positions.now)) c.self.view_is
    (part_same c.self.inside.reversed c.self.inside.positions.now c.args.positions.now c.eq.result c.if-self.false same)
