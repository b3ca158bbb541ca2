use Rattle.std.proofs.Common.{◌∙◌, ap}
use Rattle.topo_io.specs.Canon.{canon}
use Rattle.noshinka.proofs.Edits.{edit_answer}
use Rattle.noshinka.proofs.editing.edit.Goals as goal

pub returns-clause-made : goal.returns-clause-made
returns-clause-made c =
    let end = c.apply_changes.new.session.map in
    edit_answer c.args.text.now c.in_ok-text.field-0.items c.args.changes.now c.in_ok-topology.topology c.in_ok-topology.ensures.means c.in_ok-session.session.grid c.in_ok-session.session.map end
    c.in_ok-session.ensures.grid c.in_ok-session.ensures.map c.in_ok-apply_changes.ensures.changed (c.in_ok-text.ensures.text ∙ ap (λ x. canon x end) c.in_ok-apply_changes.ensures.grid)
