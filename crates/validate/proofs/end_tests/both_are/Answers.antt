use Rattle.std.proofs.Common.{◌&&◌, ◌∙◌, ap, sym}
use Rattle.arcs.specs.Among.{among}
use Rattle.validate.specs.EndTests.{is_as}
use Rattle.validate.proofs.Steps.{ends_means}
use Rattle.validate.proofs.end_tests.both_are.Goals as goal

pub returns-then-is_as : goal.returns-then-is_as
returns-then-is_as c =
    let e = c.args.ends in
    let sorted = c.args.sorted.now in
    let first = c.in-Some-Some.first.now in
    let last = c.in-Some-Some.last.now in
    sym (ends_means e sorted c.args.arc.now first last c.in-Some-Some.ensures.value c.in-Some-Some.ensures'.value
    ∙ ap (λ w. w && is_as e (among sorted last)) (sym c.is_as.ensures ∙ c.if-is_as.true)
    ∙ sym c.is_as-then-is_as.ensures)
