use Rattle.std.proofs.Common.{◌≡◌, ℕ, ℤ, Option, Some, None, [], refl, sym, subst, ap, ◌∙◌}
use Rattle.reading.specs.Fault.{here}
use Rattle.reading.specs.FaultLists.Found.{pairs_of}
use Rattle.faults.specs.declared.fault.FaultKind.TheVariants.{OutOfRange}
use Rattle.decimal_faults.specs.Parts.{numeral_faults}
use Rattle.decimal_faults.specs.Positions.{number_faults}
use Rattle.decimal_faults.proofs.Numbers.{number_refused, number_sound}
use Rattle.decimal_faults.proofs.position.judge_coordinate.Goals as goal

pub returns-in-Some-coordinate_of : goal.returns-in-Some-coordinate_of
returns-in-Some-coordinate_of c =
    let s = c.args.grid.now.step in
    let n = c.in-Some-coordinate_of.field-0 in
    let h = (c.coordinate_of.ensures n.0 n.1).0 c.in-Some-coordinate_of.is in
    ap pairs_of c.new.ensures.items
    ∙ subst (λ o. [] ≡ numeral_faults (number_faults s c.args.greatest) o) c.in-Some.ensures (sym (number_sound s c.args.greatest c.in-Some.text.now n.0 c.size-size.ensures.limits h.0.2 h.0.0 h.1 h.0.1))

none : {r : Option (ℤ × ℕ)} {x : ℤ × ℕ} → r ≡ None → r ≡ Some x → ⊥
none e f = let k = sym e ∙ f in cc

pub returns-in_ok-one-in-None : goal.returns-in_ok-one-in-None
returns-in_ok-one-in-None c =
    let s = c.args.grid.now.step in
    c.in_ok-one-in-None.ensures.same
    ∙ subst (λ o. here OutOfRange ≡ numeral_faults (number_faults s c.args.greatest) o) c.in-Some.ensures
    (sym (number_refused s c.args.greatest c.in-Some.text.now c.size-size.ensures.limits (λ p h k. none c.in-None.is ((c.coordinate_of.ensures p _).1 (h, k, refl)))))
