use Rattle.std.proofs.Common.{◌≡◌, ◌≤◌, ◌+◌, ◌∷◌, drop, length, subst, sym}
use Rattle.std.proofs.lemmas.List.{drop_all}
use Rattle.lines.proofs.Dropping.{drop_item}
use Rattle.rounded_maps.specs.Equal.{FindsRepeats, features_from, features_of}
use Rattle.rounded_maps.proofs.Repeats.{finds_all, finds_none}
use Rattle.rounded_maps.proofs.equal.find_in_map.Goals as goal

pub loop-number-init : goal.loop-number-init
loop-number-init c = λ after new h. subst (λ l. FindsRepeats (features_from c.args.layer.now 0 c.args.map.now.features.items) c.args.seen.now after l new) c.new-features.ensures.items h

pub loop-number-preserved : goal.loop-number-preserved
loop-number-preserved c = λ after new others.
    let n = c.loop-number.number in
    let layer = c.args.layer.now in
    let all = c.args.map.now.features.items in
    let item = c.feature-item.result in
    let numbers = c.loop-number.features.items in
    let seen = c.loop-number.seen in
    let split = subst (λ l. drop n l ≡ item ∷ drop (n + 1) l) c.deref-feature-items.ensures.value (drop_item c.deref-feature-items.result.now n item c.loop-number-test.true c.feature-item.is) in
    c.loop-number.invariant after new
    (subst (λ l. FindsRepeats (features_from layer n l) seen after numbers new) (sym split)
    (finds_all (features_of layer n item) (features_from layer (n + 1) (drop (n + 1) all)) seen c.find_in_feature.new.seen after numbers c.find_in_feature.new.equal.items new
    c.in_ok-find_in_feature.ensures others))

pub returns : goal.returns
returns c =
    let n = c.loop-number.number in
    let all = c.args.map.now.features.items in
    let numbers = c.loop-number.features.items in
    let seen = c.loop-number.seen in
    let past : length all ≤ n = subst (λ l. length l ≤ n) c.deref-feature-items.ensures.value c.loop-number-test.false in
    c.loop-number.invariant seen numbers
    (subst (λ l. FindsRepeats (features_from c.args.layer.now n l) seen seen numbers numbers) (sym (drop_all n all past)) (finds_none seen numbers))
