use Rattle.std.proofs.Common.{◌++◌, [], ◌∷◌, length, length-append, sym, ap, ◌∙◌, arith, rules}
use Rattle.std.specs.BTreeMap.{is_at}
use Rattle.std.specs.Map.{lookup}
use Rattle.lines.specs.Turned.{position_cmp}
use Rattle.snapping.proofs.NearlySharedLemmas.Components.{taken_all, taken_before, taken_now, taking_first}
use Rattle.snapping.proofs.NearlySharedLemmas.Tables.{listed_in, listed_without, nil_of}
use Rattle.snapping.proofs.nearly_shared.component.take_component.Goals as goal

pub loop-position-init : goal.loop-position-init
loop-position-init c = record {
  taking = λ pairs whole r e u.
      taking_first pairs whole c.args.left.now c.args.first c.args.others c.push.new.self.items r e u
      (c.in_ok-push.ensures.items ∙ ap (λ l. l ++ (c.args.first ∷ [])) c.new-members.ensures.items);
  fewer = omega arith;
}

pub loop-position-smaller-in-Some-remove : goal.loop-position-smaller-in-Some-remove
loop-position-smaller-in-Some-remove c =
    let a = listed_without (is_at (position_cmp c.in-Some.position)) c.loop-position.left.entries c.in-Some-remove.behind (sym c.in-Some-remove.ensures.value) in
    let b = ap listed_in c.remove.ensures.entries in
    let d = ap length (c.in_ok-extend_from_slice.ensures.items ∙ ap (λ l. c.pop.new.self.items ++ l) c.deref.ensures.value) in
    let e = length-append c.pop.new.self.items c.in-Some-remove.behind.items in
    let f = ap length c.in-Some.ensures.items in
    let g = length-append c.pop.new.self.items (c.in-Some.position ∷ []) in
    omega (arith, a, b, d, e, f, g)

pub loop-position-preserved-in-Some-remove : goal.loop-position-preserved-in-Some-remove
loop-position-preserved-in-Some-remove c = record {
  taking = λ pairs whole r e u.
      taken_now pairs whole c.loop-position.left c.remove.new.self c.args.first c.loop-position.members.items c.pop.new.self.items c.loop-position.waiting.items
      c.push-in-Some-remove.new.self.items c.extend_from_slice.new.self.items c.in-Some.position c.in-Some-remove.behind
      r (c.loop-position.invariant.taking pairs whole r e u) c.in-Some.ensures.items (sym c.in-Some-remove.ensures.value) c.remove.ensures.updates
      c.in_ok-push-2.ensures.items (c.in_ok-extend_from_slice.ensures.items ∙ ap (λ l. c.pop.new.self.items ++ l) c.deref.ensures.value);
  fewer = omega (arith, c.in-Some-remove.ensures.len, c.loop-position.invariant.fewer);
}

pub loop-position-preserved : goal.loop-position-preserved
loop-position-preserved c = record {
  taking = λ pairs whole r e u.
      taken_before pairs whole c.loop-position.left c.remove.new.self c.args.first c.loop-position.members.items c.pop.new.self.items c.loop-position.waiting.items
      c.in-Some.position r (c.loop-position.invariant.taking pairs whole r e u) c.in-Some.ensures.items (sym c.in_default-remove.ensures.value)
      (λ q. ap (λ es. lookup (is_at (position_cmp q)) es) c.in_default-remove.ensures.unchanged);
  fewer = omega (arith, ap length c.in_default-remove.ensures.unchanged, c.loop-position.invariant.fewer);
}

pub returns-clause-taken : goal.returns-clause-taken
returns-clause-taken c = λ pairs whole r e u.
    taken_all pairs whole c.loop-position.left c.args.first c.loop-position.members.items c.loop-position.waiting.items (c.loop-position.invariant.taking pairs whole r e u)
    (nil_of c.loop-position.waiting.items (search (rules, c.in_default.ensures.cases)))
