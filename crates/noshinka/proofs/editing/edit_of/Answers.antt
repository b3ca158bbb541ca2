use Rattle.noshinka.proofs.Edits.{join_if}
use Rattle.noshinka.proofs.editing.edit_of.Goals as goal

pub returns-else-is_removal : goal.returns-else-is_removal
returns-else-is_removal c = join_if c.args.is_removal c.args.topology c.if-is_removal.false
