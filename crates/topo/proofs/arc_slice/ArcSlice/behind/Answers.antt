use Rattle.std.proofs.Common.{◌≤◌, ◌∙◌, ap, drop, length, subst, sym}
use Rattle.topo.proofs.Runs.{part_behind}
use Rattle.topo.proofs.arc_slice.ArcSlice.behind.Goals as goal

pub returns-then-self : goal.returns-then-self
returns-then-self c =
    part_behind c.self.inside.reversed c.self.inside.positions.now c.args.count c.if-self.true (subst (λ l. c.args.count ≤ length l) (sym c.self.view_is) c.requires)
    ∙ ap (drop c.args.count) c.self.view_is
