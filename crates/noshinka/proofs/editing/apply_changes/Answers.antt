use Rattle.std.proofs.Common.{◌∙◌, arith, refl, subst, sym}
use Rattle.noshinka.specs.Editing.{AreChanged}
use Rattle.noshinka.proofs.Edits.{change_done, change_passed, change_refused, none_left}
use Rattle.noshinka.proofs.editing.apply_changes.Goals as goal

pub loop-number-init : goal.loop-number-init
loop-number-init c = record { grid = refl; changed = λ n h. h; refused = λ r h. h }

pub loop-number-preserved : goal.loop-number-preserved
loop-number-preserved c =
    let g = c.args.session.now.grid in
    let cs = c.args.changes.now in
    let n = c.loop-number.number in
    let inv = c.loop-number.invariant in
    record {
      grid = c.in-Ok.ensures.grid ∙ inv.grid;
      changed = λ m h. inv.changed m (change_done g _ _ _ cs n _ c.loop-number-test.true inv.grid c.in-Ok.ensures.changed m h);
      refused = λ r h. inv.refused r (change_passed g _ _ _ cs n _ c.loop-number-test.true inv.grid c.in-Ok.ensures.changed r h);
    }

pub returns-clause-changed : goal.returns-clause-changed
returns-clause-changed c =
    let g = c.args.session.now.grid in
    let cs = c.args.changes.now in
    let n = c.loop-number.number in
    let map = c.loop-number.session.map in
    let none = none_left cs n (omega (arith, c.loop-number-test.false)) in
    c.loop-number.invariant.changed map (subst (λ l. AreChanged g map l map) (sym none) refl)

pub returns-in-Err-clause-refused : goal.returns-in-Err-clause-refused
returns-in-Err-clause-refused c =
    let inv = c.loop-number.invariant in
    inv.refused c.in-Err.refusal (change_refused c.args.session.now.grid _ c.args.changes.now c.loop-number.number _ c.in-Err.refusal c.loop-number-test.true inv.grid c.in-Err.ensures.refused)
