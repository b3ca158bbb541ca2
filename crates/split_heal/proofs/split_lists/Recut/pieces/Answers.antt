use Rattle.std.proofs.Common.{◌∙◌, ap, slice_get}
use Rattle.split_heal.specs.PartsOfAll.{of_table}
use Rattle.split_heal.specs.SplitParts.{of_side}
use Rattle.split_heal.proofs.Lists.{side_is}
use Rattle.split_heal.proofs.split_lists.Recut.pieces.Goals as goal

pub returns : goal.returns
returns c =
    c.pieces.ensures
    ∙ ap (λ w. slice_get w c.args.number)
    (ap (λ n. of_table n c.self.inside.both) c.number.ensures ∙ side_is c.args.side c.self.inside.both ∙ ap (of_side c.args.side) c.self.view_is)
