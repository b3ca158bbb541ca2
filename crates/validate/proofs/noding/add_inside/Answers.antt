use Rattle.std.proofs.Common.{◌≡◌, ◌++◌, ◌∙◌, List, ap, OnOk, Result, Ok, Err, if◌then◌else◌}
use Rattle.std.specs.Result.{is_ok}
use Rattle.grid.specs.declared.pos.Pos.{Pos}
use Rattle.validate.proofs.Steps.{free_inside, open_inside}
use Rattle.validate.proofs.noding.add_inside.Goals as goal

grown : {A E : Type 0} (r : Result A E) (now was more all : List Pos) → now ≡ (if is_ok r then was ++ more else was) → more ≡ all → OnOk r (now ≡ was ++ all)
grown (Ok x) now was more all e f = e ∙ ap (λ w. was ++ w) f
grown (Err x) now was more all e f = tt

pub returns-then-free : goal.returns-then-free
returns-then-free c =
    grown c.extend_from_slice.result c.extend_from_slice.new.self.items c.args.inside.now.items c.in-Some.front.now _ c.extend_from_slice.ensures.items
    (free_inside c.args.free c.args.arc.now c.in-Some.front.now c.in-Some.field-0-0.now c.if-free.true c.in-Some.ensures.cases.0)

pub returns-in-Some-split_first : goal.returns-in-Some-split_first
returns-in-Some-split_first c =
    grown c.extend_from_slice-in-Some-split_first.result c.extend_from_slice-in-Some-split_first.new.self.items c.args.inside.now.items c.in-Some-split_first.inner.now _
    c.extend_from_slice-in-Some-split_first.ensures.items
    (open_inside c.args.free c.args.arc.now c.in-Some.front.now c.in-Some-split_first.inner.now c.in-Some.field-0-0.now c.in-Some-split_first.field-0-0.now
    c.if-free.false c.in-Some.ensures.cases.0 c.in-Some-split_first.ensures.cases.0)
