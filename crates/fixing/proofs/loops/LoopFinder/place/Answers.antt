use Rattle.std.proofs.Common.{◌≡◌, ℕ, Option, Some, None, sym, ◌∙◌}
use Rattle.std.specs.BTreeMap.{get}
use Rattle.lines.specs.Turned.{position_cmp}
use Rattle.fixing.proofs.LoopSteps.{no_place, place_other, place_past, place_same, stands}
use Rattle.fixing.proofs.loops.LoopFinder.place.Goals as goal

pub returns-in_default : goal.returns-in_default
returns-in_default c =
    no_place (get position_cmp c.args.self.now.places) c.args.self.now.path.items c.args.position c.requires
    (λ k e _. let z : ◌≡◌ {A = Option ℕ} None (Some k) = c.in_default.ensures.value ∙ e in cc)

pub returns-in_default-get : goal.returns-in_default-get
returns-in_default-get c =
    place_past (get position_cmp c.args.self.now.places) c.args.self.now.path.items c.deref.result.now c.args.position c.in-Some.place.now c.requires c.in-Some.ensures.value
    c.deref.ensures.value c.in_default-get.ensures.lookup.0

pub returns-then-eq : goal.returns-then-eq
returns-then-eq c =
    place_same (get position_cmp c.args.self.now.places) c.args.self.now.path.items c.args.position c.in-Some-get.met.now c.in-Some.place.now c.requires
    (stands c.args.self.now.path.items c.deref.result.now c.in-Some.place.now c.in-Some-get.met.now c.deref.ensures.value c.in-Some-get.ensures.lookup.0 c.in-Some-get.ensures.lookup.1)
    (sym c.eq.ensures ∙ c.if-eq.true)

pub returns-else-eq : goal.returns-else-eq
returns-else-eq c =
    place_other (get position_cmp c.args.self.now.places) c.args.self.now.path.items c.args.position c.in-Some-get.met.now c.in-Some.place.now c.requires c.in-Some.ensures.value
    (stands c.args.self.now.path.items c.deref.result.now c.in-Some.place.now c.in-Some-get.met.now c.deref.ensures.value c.in-Some-get.ensures.lookup.0 c.in-Some-get.ensures.lookup.1)
    (sym c.eq.ensures ∙ c.if-eq.false)
