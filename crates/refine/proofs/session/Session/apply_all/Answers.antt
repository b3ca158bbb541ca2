use Rattle.std.proofs.Common.{◌↔◌, ◌∙◌, All, Err, IsErrOf, ap, refl, sym, subst, arith}
use Rattle.std.proofs.lemmas.List.{take_all}
use Rattle.refine.specs.Edits.{AreEditedTo, IsOnGrid}
use Rattle.merging.specs.declared.fault.JoinFault.TheVariants.{OtherGrid}
use Rattle.refine.proofs.EditsDone.{AreDone, done_before, none_done, one_more_done, refused_at}
use Rattle.refine.proofs.session.Session.apply_all.Goals as goal

pub loop-place-init : goal.loop-place-init
loop-place-init c = record { grid = refl; edits = none_done c.args.self.now.grid c.args.self.now.map c.args.edits.now }

pub loop-place-preserved : goal.loop-place-preserved
loop-place-preserved c = record {
  grid = c.in_default.ensures.grid ∙ c.loop-place.invariant.grid;
  edits = one_more_done c.args.self.now.grid c.args.self.now.map c.args.edits.now c.loop-place.place c.index-edits-place.result _ _
      c.loop-place-test.true c.index-edits-place.is c.loop-place.invariant.edits
      (subst (λ g. IsOnGrid g c.index-edits-place.result) c.loop-place.invariant.grid c.in_default.ensures.on_grid) c.in_default.ensures.map;
}

pub returns-clause-map : goal.returns-clause-map
returns-clause-map c =
    let all = take_all c.loop-place.place c.args.edits.now (omega (arith, c.loop-place-test.false)) in
    subst (λ es. AreEditedTo c.args.self.now.map es c.loop-place.self.map) all
    (done_before c.args.self.now.grid c.args.self.now.map c.args.edits.now c.loop-place.place c.loop-place.self.map c.loop-place.invariant.edits)

pub returns-clause-on_grid : goal.returns-clause-on_grid
returns-clause-on_grid c =
    let all = take_all c.loop-place.place c.args.edits.now (omega (arith, c.loop-place-test.false)) in
    subst (All (IsOnGrid c.args.self.now.grid)) all c.loop-place.invariant.edits.on_grid

pub returns-in-Err-clause-err : goal.returns-in-Err-clause-err
returns-in-Err-clause-err c =
    done_before c.args.self.now.grid c.args.self.now.map c.args.edits.now c.loop-place.place c.apply.new.self.map
    (subst (AreDone c.args.self.now.grid c.args.self.now.map c.args.edits.now c.loop-place.place) (sym (ap (λ s. s.map) c.in-Err.ensures.err)) c.loop-place.invariant.edits)

pub returns-in-Err-clause-refused : goal.returns-in-Err-clause-refused
returns-in-Err-clause-refused c =
    refused_at c.args.self.now.grid c.args.self.now.map c.args.edits.now c.loop-place.place c.index-edits-place.result c.in-Err.fault c.loop-place.self.map
    c.loop-place-test.true c.index-edits-place.is c.loop-place.invariant.edits
    (subst (λ g. IsErrOf (Err c.in-Err.fault) OtherGrid ↔ ¬ IsOnGrid g c.index-edits-place.result) c.loop-place.invariant.grid c.in-Err.ensures.other_grid)
