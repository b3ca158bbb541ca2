use Rattle.std.proofs.Common.{inl, inr, subst}
use Rattle.arcs.specs.Extents.{within}
use Rattle.arcs.proofs.ArcsHeld.{arc_marked, ArcsAreLeft}
use Rattle.arcs.proofs.arcs_box.Extent.find.Goals as goal

pub loop-arc-preserved : goal.loop-arc-preserved
loop-arc-preserved c =
    arc_marked (within c.loop-arc.extent) (within c.widen_all.new.self) c.args.table.now.arcs c.next.new.self c.in-Some.arc.now c.widen_all.ensures
    (subst (ArcsAreLeft (within c.loop-arc.extent) c.args.table.now.arcs) c.in-Some.ensures.steps c.loop-arc.invariant)

pub returns : goal.returns
returns c = λ arc h p k. elim (subst (ArcsAreLeft (within c.loop-arc.extent) c.args.table.now.arcs) c.in-None.ensures.steps.0 c.loop-arc.invariant arc h) [
  | inl j ↦ absurd j
  | inr f ↦ f p k
]
