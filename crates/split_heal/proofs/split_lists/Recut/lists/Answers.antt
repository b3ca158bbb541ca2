use Rattle.std.proofs.Common.{◌∙◌, ap}
use Rattle.split_heal.specs.PartsOfAll.{RecutAllParts, of_table}
use Rattle.split_heal.specs.SplitParts.{RecutParts, of_side}
use Rattle.split_heal.proofs.Lists.{side_is}
use Rattle.split_heal.proofs.split_lists.Recut.lists.Goals as goal

pub returns-clause-arcs : goal.returns-clause-arcs
returns-clause-arcs c = ap (λ (r : RecutAllParts). r.arcs) c.lists.ensures.recut ∙ ap (λ (r : RecutParts). r.arcs) c.self.view_is

pub returns-clause-pieces : goal.returns-clause-pieces
returns-clause-pieces c =
    (λ i. of_table (c.lists.ensures.table i) (c.lists.ensures.recut i))
    ∙ ap (λ n. of_table n c.self.inside.both) c.number.ensures ∙ side_is c.args.side c.self.inside.both ∙ ap (of_side c.args.side) c.self.view_is
