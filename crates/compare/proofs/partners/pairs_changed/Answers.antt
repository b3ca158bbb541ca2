use Rattle.std.proofs.Common.{arith, length, refl, sym, subst, ◌≡◌, ◌<◌}
use Rattle.compare.specs.Keyed.{keys_in}
use Rattle.compare.specs.Placed.{ArePairs}
use Rattle.compare.proofs.Listing.{pairs_none, pairs_skip, pairs_take}
use Rattle.compare.proofs.partners.pairs_changed.Goals as goal

pub partner-requires : goal.partner-requires
partner-requires c = record { geometry = c.loop-old-test.true; key = subst (λ n. c.loop-old.old < n) (sym c.requires) c.loop-old-test.true }

pub loop-old-init : goal.loop-old-init
loop-old-init c = λ own gs ks is.
    subst (ArePairs c.args.own.now.geometries.now gs (keys_in c.args.own.now.keys) ks 0) (sym c.new-changed.ensures.items) (pairs_none c.args.own.now.geometries.now gs (keys_in c.args.own.now.keys) ks)

pub loop-old-preserved-in_default : goal.loop-old-preserved-in_default
loop-old-preserved-in_default c = λ own gs ks is.
    pairs_skip c.args.own.now.geometries.now gs (keys_in c.args.own.now.keys) ks c.loop-old.old c.loop-old.changed.items (c.in_default.ensures.none own gs ks is) (c.loop-old.invariant own gs ks is)

pub loop-old-preserved : goal.loop-old-preserved
loop-old-preserved c = λ own gs ks is.
    pairs_take c.args.own.now.geometries.now gs (keys_in c.args.own.now.keys) ks c.loop-old.old c.in-Some.new _ c.loop-old.changed.items c.push.new.self.items refl refl
    (c.in-Some.ensures.some own gs ks is) c.in_ok-push.ensures.items (c.loop-old.invariant own gs ks is)

pub returns : goal.returns
returns c = λ own gs ks is.
    let e : c.loop-old.old ≡ length c.args.own.now.geometries.now = omega (arith, c.loop-old-test.false, c.loop-old.auto.old-end) in
    subst (λ n. ArePairs c.args.own.now.geometries.now gs (keys_in c.args.own.now.keys) ks n c.loop-old.changed.items) e (c.loop-old.invariant own gs ks is)
