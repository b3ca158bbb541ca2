use Rattle.std.proofs.Common.{◌≡◌, ◌+◌, ◌∙◌, [], ◌∷◌, ◌++◌, ap, append-nil, append_assoc, drop, map, refl, string_bytes, subst, sym}
use Rattle.std.proofs.lemmas.List.{drop_all}
use Rattle.lines.proofs.Dropping.{drop_item}
use Rattle.rounded_maps.specs.Equal.{AreEqual, AreRepeats, FindsRepeats, features_from, seen_behind}
use Rattle.rounded_maps.proofs.equal.find_equal_features.Goals as goal

pub returns-in_default : goal.returns-in_default
returns-in_default c =
    let n = c.loop-place.place in
    let layers = c.args.layers.now in
    let maps = c.args.maps.now in
    let layer = c.index-layers-place.result in
    let before = c.loop-place.invariant.before in
    let some = drop_item layers n layer c.loop-place-test.true c.index-layers-place.is in
    let none : drop n maps ≡ [] = drop_all n maps c.in_default.ensures.lookup.3 in
    subst (AreEqual [] (map string_bytes layers) maps) (append-nil c.loop-place.equal.items)
    (c.loop-place.invariant.equal []
    (subst (λ ls. AreEqual before (map string_bytes ls) (drop n maps) []) (sym some)
    (subst (λ ms. AreEqual before (string_bytes layer ∷ map string_bytes (drop (n + 1) layers)) ms []) (sym none) refl)))

pub loop-place-preserved : goal.loop-place-preserved
loop-place-preserved c =
    let n = c.loop-place.place in
    let layers = c.args.layers.now in
    let maps = c.args.maps.now in
    let layer = c.index-layers-place.result in
    let m = c.in-Some.map.now in
    let e = c.in_ok-find_in_map.field-0 in
    let old = c.loop-place.equal.items in
    let before = c.loop-place.invariant.before in
    let some_layers = drop_item layers n layer c.loop-place-test.true c.index-layers-place.is in
    let some_maps = drop_item maps n m c.in-Some.ensures.lookup.3.0 c.in-Some.ensures.lookup.1 in
    let fs = features_from (string_bytes layer) 0 m.features.items in
    let finds : FindsRepeats fs c.loop-place.seen c.find_in_map.new.seen [] e.features.items = rw c.as_str.ensures.value at c.in_ok-find_in_map.ensures in
    let (holds, (numbers, (is, repeats))) = finds before c.loop-place.invariant.holds in
    record {
      before = seen_behind before fs;
      holds = holds;
      equal = λ more h.
          subst (AreEqual [] (map string_bytes layers) maps) (sym (ap (λ l. l ++ more) c.in_ok-push.ensures.items ∙ append_assoc old (e ∷ []) more))
          (c.loop-place.invariant.equal (e ∷ more)
          (subst (λ ls. AreEqual before (map string_bytes ls) (drop n maps) (e ∷ more)) (sym some_layers)
          (subst (λ ms. AreEqual before (string_bytes layer ∷ map string_bytes (drop (n + 1) layers)) ms (e ∷ more)) (sym some_maps)
          (subst (AreRepeats before fs) (sym is) repeats, h))));
    }

pub returns : goal.returns
returns c =
    let n = c.loop-place.place in
    let layers = c.args.layers.now in
    let maps = c.args.maps.now in
    let none : drop n layers ≡ [] = drop_all n layers c.loop-place-test.false in
    subst (AreEqual [] (map string_bytes layers) maps) (append-nil c.loop-place.equal.items)
    (c.loop-place.invariant.equal [] (subst (λ ls. AreEqual c.loop-place.invariant.before (map string_bytes ls) (drop n maps) []) (sym none) refl))
