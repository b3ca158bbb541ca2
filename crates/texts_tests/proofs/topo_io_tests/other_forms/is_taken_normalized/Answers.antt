use Rattle.std.proofs.Common.{IfSome, subst, sym}
use Rattle.normalize.specs.Repeats.{AreWithoutRepeats}
use Rattle.validate.specs.Accept.Laws.{HaveI64}
use Rattle.topo_io.proofs.ValidTextsMeanAMap.{said_ids}
use Rattle.topo_io.proofs.Repeats.{without_ids}
use Rattle.texts_tests.proofs.topo_io_tests.other_forms.is_taken_normalized.Goals as goal

pub are_taken-requires : goal.are_taken-requires
are_taken-requires c =
    let w = c.in-Some.without in
    let arcs = c.deref.result.now in
    let ls = c.deref-2.result.now in
    let said = subst HaveI64 (sym c.deref-2.ensures.value) (said_ids c.as_bytes.result.now c.in-Ok.parts.grid c.in-Ok.parts.arcs.items c.in-Ok.parts.layers.items c.in-Ok.ensures.ok) in
    let is = subst (λ o. IfSome o (λ v. AreWithoutRepeats arcs ls v.arcs.items v.layers.items)) c.in-Some.is c.in_ok-without.ensures.without in
    subst HaveI64 (sym c.deref-in-Some-2.ensures.value) (without_ids arcs ls w.arcs.items w.layers.items is said)

pub are_taken-requires-in-None : goal.are_taken-requires-in-None
are_taken-requires-in-None c =
    subst HaveI64 (sym c.deref-in-None-2.ensures.value) (said_ids c.as_bytes.result.now c.in-Ok.parts.grid c.in-Ok.parts.arcs.items c.in-Ok.parts.layers.items c.in-Ok.ensures.ok)
