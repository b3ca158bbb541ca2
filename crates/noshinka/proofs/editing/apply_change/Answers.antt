use Rattle.std.proofs.Common.{subst}
use Rattle.noshinka.specs.Editing.{IsEditOn}
use Rattle.noshinka.proofs.Edits.{changed_by}
use Rattle.noshinka.proofs.editing.apply_change.Goals as goal

pub returns-in-Ok-clause-changed : goal.returns-in-Ok-clause-changed
returns-in-Ok-clause-changed c =
    changed_by c.args.session.now.grid c.args.session.now.map _ c.args.change.now c.in_ok-edit.edit (subst (λ g. IsEditOn g c.args.change.now c.in_ok-edit.edit) c.topology.ensures.grid c.in_ok-edit.ensures.edit)
    c.in-Ok.ensures.map
