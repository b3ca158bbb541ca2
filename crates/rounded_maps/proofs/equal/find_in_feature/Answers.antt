use Rattle.std.proofs.Common.{◌≡◌, ◌≤◌, ◌+◌, ◌∷◌, drop, length, subst, sym}
use Rattle.std.proofs.lemmas.List.{drop_all}
use Rattle.lines.proofs.Dropping.{drop_item}
use Rattle.rounded_maps.specs.Equal.{FindsRepeats, printed_shape}
use Rattle.rounded_maps.proofs.Repeats.{features_with, finds_more, finds_none}
use Rattle.rounded_maps.proofs.equal.find_in_feature.Goals as goal

pub loop-shape-preserved : goal.loop-shape-preserved
loop-shape-preserved c = λ after new others.
    let i = c.loop-shape.shape-index in
    let n = c.args.number in
    let layer = c.args.layer.now in
    let f = c.args.feature.now in
    let all = f.feature.shapes.items in
    let item = c.shape-item.result in
    let numbers = c.loop-shape.equal.items in
    let seen = c.loop-shape.seen in
    let split = subst (λ l. drop i l ≡ item ∷ drop (i + 1) l) c.deref-shape-items.ensures.value (drop_item c.deref-shape-items.result.now i item c.loop-shape-test.true c.shape-item.is) in
    c.loop-shape.invariant after new
    (subst (λ l. FindsRepeats (features_with layer n f l) seen after numbers new) (sym split)
    (finds_more (n, printed_shape layer f item) (features_with layer n f (drop (i + 1) all)) seen c.find_one.new.seen after numbers c.find_one.new.equal.items new c.in_ok-find_one.ensures others))

pub returns : goal.returns
returns c =
    let i = c.loop-shape.shape-index in
    let f = c.args.feature.now in
    let all = f.feature.shapes.items in
    let numbers = c.loop-shape.equal.items in
    let seen = c.loop-shape.seen in
    let past : length all ≤ i = subst (λ l. length l ≤ i) c.deref-shape-items.ensures.value c.loop-shape-test.false in
    c.loop-shape.invariant seen numbers
    (subst (λ l. FindsRepeats (features_with c.args.layer.now c.args.number f l) seen seen numbers numbers) (sym (drop_all i all past)) (finds_none seen numbers))
