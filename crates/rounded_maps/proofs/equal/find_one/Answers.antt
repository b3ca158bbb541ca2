use Rattle.std.proofs.Common.{◌≡◌, inl, inr, Bool, false, true, not, refl, ap, sym, ◌∙◌}
use Rattle.std.specs.BTreeSet.{contains}
use Rattle.rounded_maps.proofs.LayerOrder.{tied}
use Rattle.rounded_maps.proofs.Repeats.{seen_one}
use Rattle.rounded_maps.specs.contracts.equal.LayerFeatureOrd.TheImpl as derived
use Rattle.rounded_maps.proofs.equal.find_one.Goals as goal

not_so : (a b c : Bool) → a ≡ not b → a ≡ c → b ≡ not c
not_so a true c e f = ap not (sym e ∙ f)
not_so a false c e f = ap not (sym e ∙ f)

pub returns-then-branch : goal.returns-then-branch
returns-then-branch c =
    let fresh : contains derived.cmp-value.it c.args.seen.now c.args.found ≡ false = not_so _ _ _ c.in_ok-insert.ensures.added c.if-branch.true in
    seen_one derived.cmp-value.it tied c.args.number c.args.found c.args.seen.now _ _ _ c.in_ok-insert.ensures.keys (inl (fresh, refl))

pub returns : goal.returns
returns c =
    let there : contains derived.cmp-value.it c.args.seen.now c.args.found ≡ true = not_so _ _ _ c.in_ok-insert.ensures.added c.if-branch.false in
    seen_one derived.cmp-value.it tied c.args.number c.args.found c.args.seen.now _ _ _ c.in_ok-insert.ensures.keys (inr (there, c.in_ok-push.ensures.items))
