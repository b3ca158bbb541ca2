use Rattle.std.proofs.Common.{sym, ap, ◌∙◌, subst}
use Rattle.std.specs.FinMap as map
use Rattle.shapes.specs.Sets as set
use Rattle.shapes.specs.Maps.{features_at}
use Rattle.shapes.specs.Inside.{layers_of, united_at, features_of}
use Rattle.shapes.proofs.MapLemmas.{AreKeyed, keyed_from, contains_key-layers}
use Rattle.shapes.proofs.UnionLemmas.{no_more, united_skip, united_put, features_found}
use Rattle.shapes.proofs.feature_map.unite.Goals as goal

pub loop-name-init : goal.loop-name-init
loop-name-init c =
    let e = c.into_iter-name-iterator.ensures.into_iter_gives in
    record {
      features = λ q. ap (λ es. united_at (layers_of c.args.others.now.entries) (layers_of c.args.united.now.entries) es q) (e ∙ c.iter-name-items.ensures.rest);
      names = λ a b. a;
      keys = λ n. subst AreKeyed (sym (e ∙ c.iter-name-items.ensures.rest)) (keyed_from c.args.layers.now.entries n c.args.layers.now.entries c.iter-name-items.ensures.found);
    }

pub loop-name-preserved-then-contains_key : goal.loop-name-preserved-then-contains_key
loop-name-preserved-then-contains_key c =
    let e = c.in-Some.ensures.steps in
    let m = layers_of c.loop-name.united.entries in
    let there = ap (map.contains_key m) (sym c.as_str.ensures.value) ∙ contains_key-layers c.loop-name.united.entries _ ∙ sym c.contains_key.ensures ∙ c.if-contains_key.true in
    record {
      features = λ q. sym (united_skip (layers_of c.args.others.now.entries) m c.in-Some.name.now c.in-Some.layer.now c.next.new.self there q) ∙ ap (λ es. united_at (layers_of c.args.others.now.entries) m es q) (sym e) ∙ c.loop-name.invariant.features q;
      names = c.loop-name.invariant.names;
      keys = λ n. (subst AreKeyed e (c.loop-name.invariant.keys n)).1;
    }

pub loop-name-preserved : goal.loop-name-preserved
loop-name-preserved c =
    let e = c.in-Some.ensures.steps in
    let m = layers_of c.loop-name.united.entries in
    let n = layers_of c.args.others.now.entries in
    let absent = ap (map.contains_key m) (sym c.as_str.ensures.value) ∙ contains_key-layers c.loop-name.united.entries _ ∙ sym c.contains_key.ensures ∙ c.if-contains_key.false in
    let key = c.in_ok-key.ensures.ok ∙ c.as_str-in-loop-name-2.ensures.value in
    let joined = c.in_ok-joined.ensures.features ∙ ap (set.union (features_of c.in-Some.layer.now)) (features_found c.args.others.now.entries _ _ c.get.ensures.value ∙ ap (features_at n) c.as_str-in-loop-name.ensures.value) in
    let made = c.in_ok-put_layer.ensures.features ∙ (λ i. map.insert m (key i) (joined i)) in
    record {
      features = λ q. ap (λ x. united_at n x c.next.new.self q) made
          ∙ united_put n m c.in-Some.name.now c.in-Some.layer.now c.next.new.self absent q
          ∙ ap (λ es. united_at n m es q) (sym e) ∙ c.loop-name.invariant.features q;
      names = λ old named. c.in_ok-put_layer.ensures.names (ap (λ s. s.text) c.in_ok-joined.ensures.name ∙ (subst AreKeyed e (c.loop-name.invariant.keys named)).0 ∙ sym key) (c.loop-name.invariant.names old named);
      keys = λ named. (subst AreKeyed e (c.loop-name.invariant.keys named)).1;
    }

pub returns-clause-features : goal.returns-clause-features
returns-clause-features c = λ q.
    no_more (map.get (layers_of c.loop-name.united.entries) q)
    ∙ ap (λ es. united_at (layers_of c.args.others.now.entries) (layers_of c.loop-name.united.entries) es q) (sym c.in-None.ensures.steps.0)
    ∙ c.loop-name.invariant.features q
