use Rattle.std.proofs.Common.{◌∙◌, ap, sym, string_bytes, Some, None}
use Rattle.shapes.specs.Maps.{set_of}
use Rattle.shapes.proofs.MapLemmas.{on_ok}
use Rattle.shapes.proofs.UnionLemmas.{set_union_empty}
use Rattle.shapes.proofs.MovingLemmas.{put_beside, names_left}
use Rattle.shapes.proofs.feature_map.move_layer.Goals as goal

pub returns-in_ok-whole-in-Some-clause-features : goal.returns-in_ok-whole-in-Some-clause-features
returns-in_ok-whole-in-Some-clause-features c =
    on_ok c.put_layer.result
    (put_beside c.args.layers.now c.remove.new.self c.put_layer.new.layers c.as_str.result.now (string_bytes c.args.key) (set_of c.args.layer.features) (set_of c.in_ok-whole-in-Some.whole.features) (Some c.in-Some.present)
    c.as_str.ensures.value c.remove.ensures.updates c.in-Some.ensures.value c.in_ok-whole-in-Some.ensures.features)
    c.put_layer.ensures.features

pub returns-in_ok-whole-in-Some-clause-names : goal.returns-in_ok-whole-in-Some-clause-names
returns-in_ok-whole-in-Some-clause-names c =
    on_ok c.put_layer.result
    (λ f a b. f (ap (λ s. s.text) c.in_ok-whole-in-Some.ensures.name ∙ a) (names_left c.args.layers.now c.remove.new.self c.as_str.result.now c.remove.ensures.updates b))
    c.put_layer.ensures.names

pub returns-in-None-clause-features : goal.returns-in-None-clause-features
returns-in-None-clause-features c =
    on_ok c.put_layer-in-None.result
    (put_beside c.args.layers.now c.remove.new.self c.put_layer-in-None.new.layers c.as_str.result.now (string_bytes c.args.key) (set_of c.args.layer.features) (set_of c.args.layer.features) None
    c.as_str.ensures.value c.remove.ensures.updates c.in-None.ensures.value (sym (set_union_empty (set_of c.args.layer.features))))
    c.put_layer-in-None.ensures.features

pub returns-in-None-clause-names : goal.returns-in-None-clause-names
returns-in-None-clause-names c =
    on_ok c.put_layer-in-None.result
    (λ f a b. f a (names_left c.args.layers.now c.remove.new.self c.as_str.result.now c.remove.ensures.updates b))
    c.put_layer-in-None.ensures.names
