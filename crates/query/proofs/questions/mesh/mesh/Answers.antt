use Rattle.std.proofs.Common.{ap, length, refl, sym, subst, ◌∙◌}
use Rattle.std.specs.Fn.{FnReturnsAtPair}
use Rattle.query.specs.Mesh.{MayAsk}
use Rattle.query.specs.Selecting.{MayAskAmong}
use Rattle.query.proofs.Meshing.{selected_by}
use Rattle.query.proofs.questions.mesh.mesh.Goals as goal

pub choose-requires : goal.choose-requires
choose-requires g c =
    let (m, of) = c.arcs-arcs.ensures.of_map in
    let are = c.in_ok-members.ensures.members m of in
    subst (MayAskAmong (MayAsk g.F.Fn c.args.filter)) (sym c.deref-3.ensures.value)
    (λ p q one two. c.requires m of p.feature q.feature (are.only p one).within (are.only q two).within)

pub returns-clause-lines : goal.returns-clause-lines
returns-clause-lines g c =
    let (segs, has, over) = c.in_ok-lines_over.ensures in (
      segs,
      over,
      λ m of. selected_by m c.args.topology.now of _ c.in_ok-members.members.items (c.in_ok-members.ensures.members m of) (FnReturnsAtPair g.F.Fn c.args.filter)
          c.args.topology.now.arcs refl c.len.result (c.len.ensures.len ∙ ap (λ w. length w.arcs) c.arcs-arcs.ensures.arcs) c.deref.result.now c.deref-3.result.now
          c.deref.ensures.value c.deref-3.ensures.value c.in_ok-spans.spans.items c.deref-2.result.now c.in_ok-spans.ensures c.deref-2.ensures.value
          c.in_ok-chosen.chosen.items c.deref-4.result.now c.in_ok-chosen.ensures c.deref-4.ensures.value segs has,
    )
