use Rattle.std.proofs.Common.{ap, length, ◌∙◌}
use Rattle.query.specs.EachOnce.{borrowed}
use Rattle.query.proofs.Using.{borders_selected}
use Rattle.query.proofs.questions.borders.borders.Goals as goal

pub returns-clause-lines : goal.returns-clause-lines
returns-clause-lines c =
    let (segs, has, over) = c.in_ok-lines_over.ensures in (
      segs,
      over,
      λ m of. borders_selected m c.args.topology.now of _ c.in_ok-layers.layers.now c.in_ok-layers.ensures.layers (borrowed c.in_ok-geometries.geometries.items)
          c.in_ok-geometries.ensures (borrowed c.deref.result.now) (ap borrowed c.deref.ensures.value) c.in_ok-uses.uses.items c.in_ok-uses.ensures c.deref-2.result.now
          c.deref-2.ensures.value c.len.result (c.len.ensures.len ∙ ap (λ w. length w.arcs) c.arcs-arcs.ensures.arcs) c.in_ok-spans.spans.items c.in_ok-spans.ensures
          c.deref-3.result.now c.deref-3.ensures.value _ c.in_ok-asked.asked.items c.in_ok-asked.ensures c.deref-4.result.now c.deref-4.ensures.value segs has,
    )
