use Rattle.std.proofs.Common.{◌∙◌, ap, arith, is_some, string_bytes, sym}
use Rattle.std.specs.BTreeMap.{get_by_text}
use Rattle.topo.specs.declared.geom.Geom.{Geom}
use Rattle.noshinka.specs.Keys.{key_of}
use Rattle.noshinka.proofs.Keying.{ended, found, passed, starts}
use Rattle.noshinka.proofs.keys.has_key_twice.Goals as goal

pub loop-geometry-init : goal.loop-geometry-init
loop-geometry-init c = starts c.new-seen.result c.args.geometries.now c.new-seen.ensures.empty

pub loop-geometry-preserved : goal.loop-geometry-preserved
loop-geometry-preserved c =
    let seen = c.loop-geometry.seen in
    let key = string_bytes c.in_ok-key.key in
    passed seen c.insert.new.self c.args.geometries.now c.loop-geometry.geometry-index c.geometry-item.result key 0 c.loop-geometry-test.true (c.in_ok-key.ensures ∙ ap (λ (g : Geom). key_of g.id) c.geometry-item.is) c.in_ok-insert.ensures.updates c.loop-geometry.invariant
    (sym (c.contains_key-is_seen.ensures ∙ ap (λ k. is_some (get_by_text seen k)) c.as_str.ensures.value) ∙ c.if-is_seen.false)

pub returns-then-is_seen : goal.returns-then-is_seen
returns-then-is_seen c =
    let seen = c.loop-geometry.seen in
    let key = string_bytes c.in_ok-key.key in
    sym (found seen c.args.geometries.now c.loop-geometry.geometry-index c.geometry-item.result key c.loop-geometry-test.true (c.in_ok-key.ensures ∙ ap (λ (g : Geom). key_of g.id) c.geometry-item.is) c.loop-geometry.invariant
    (sym (c.contains_key-is_seen.ensures ∙ ap (λ k. is_some (get_by_text seen k)) c.as_str.ensures.value) ∙ c.if-is_seen.true))

pub returns : goal.returns
returns c = sym (ended c.loop-geometry.seen c.args.geometries.now c.loop-geometry.geometry-index (omega (arith, c.loop-geometry-test.false)) c.loop-geometry.invariant)
