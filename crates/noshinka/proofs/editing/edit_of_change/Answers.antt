use Rattle.std.proofs.Common.{refl}
use Rattle.noshinka.proofs.Edits.{edit_on}
use Rattle.noshinka.proofs.editing.edit_of_change.Goals as goal

pub returns-clause-edit : goal.returns-clause-edit
returns-clause-edit c =
    edit_on c.args.topology.now.grid c.args.change.now _ c.in_ok-other.other c.in_ok-edit_of.field-0 c.in_ok-is_removal.ensures.choice c.in_ok-is_removal.ensures.yes c.in_ok-other.ensures.means (c.if-not-is_on_grid_of.ensures.0 refl)
    c.in_ok-edit_of.ensures
