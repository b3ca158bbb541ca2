use Rattle.std.proofs.Common.{arith, length, sym, subst, ◌∙◌, ◌<◌}
use Rattle.std.specs.Prelude.{true, false, ◌≡◌}
use Rattle.compare.specs.Differences.{Those}
use Rattle.compare.specs.Keyed.{keys_in}
use Rattle.compare.specs.Placed.{IsGoneAt}
use Rattle.compare.proofs.Listing.{those_none, those_skip, those_take}
use Rattle.compare.proofs.partners.numbers_gone.Goals as goal

pub is_gone-requires : goal.is_gone-requires
is_gone-requires c = record { geometry = c.loop-number-test.true; key = subst (λ n. c.loop-number.number < n) (sym c.requires) c.loop-number-test.true }

pub loop-number-init : goal.loop-number-init
loop-number-init c = λ own gs ks is.
    subst (Those (IsGoneAt c.args.own.now.geometries.now gs (keys_in c.args.own.now.keys) ks) 0) (sym c.new-gone.ensures.items) (those_none (IsGoneAt c.args.own.now.geometries.now gs (keys_in c.args.own.now.keys) ks))

pub loop-number-preserved-then-not-is_gone : goal.loop-number-preserved-then-not-is_gone
loop-number-preserved-then-not-is_gone c = λ own gs ks is.
    those_skip (IsGoneAt c.args.own.now.geometries.now gs (keys_in c.args.own.now.keys) ks) c.loop-number.number c.loop-number.gone.items
    (λ gone. let f : true ≡ false = sym ((c.is_gone.ensures own gs ks is).1 gone) ∙ c.if-not-is_gone.true in cc) (c.loop-number.invariant own gs ks is)

pub loop-number-preserved : goal.loop-number-preserved
loop-number-preserved c = λ own gs ks is.
    those_take (IsGoneAt c.args.own.now.geometries.now gs (keys_in c.args.own.now.keys) ks) c.loop-number.number c.loop-number.gone.items c.push.new.self.items
    ((c.is_gone.ensures own gs ks is).0 c.if-not-is_gone.false) c.in_ok-push.ensures.items (c.loop-number.invariant own gs ks is)

pub returns : goal.returns
returns c = λ own gs ks is.
    let e : c.loop-number.number ≡ length c.args.own.now.geometries.now = omega (arith, c.loop-number-test.false, c.loop-number.auto.number-end) in
    subst (λ n. Those (IsGoneAt c.args.own.now.geometries.now gs (keys_in c.args.own.now.keys) ks) n c.loop-number.gone.items) e (c.loop-number.invariant own gs ks is)
