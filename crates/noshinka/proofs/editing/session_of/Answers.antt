use Rattle.std.proofs.Common.{subst}
use Rattle.refine.specs.Edits.{IsEditedTo}
use Rattle.refine.specs.declared.edit.Edit.TheVariants.{Join}
use Rattle.noshinka.proofs.Edits.{joined_to_none}
use Rattle.noshinka.proofs.editing.session_of.Goals as goal

pub returns-in-Ok-clause-map : goal.returns-in-Ok-clause-map
returns-in-Ok-clause-map c = λ m of.
    joined_to_none c.args.topology c.apply.new.self.map m of (subst (λ s. IsEditedTo s (Join c.args.topology) c.apply.new.self.map) c.in_ok-session.ensures.map c.in-Ok.ensures.map)
