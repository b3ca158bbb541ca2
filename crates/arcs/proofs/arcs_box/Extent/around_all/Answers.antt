use Rattle.std.proofs.Common.{inl, inr, subst}
use Rattle.theory.specs.Lists.{Has}
use Rattle.lines.proofs.Dropping.{drop_item, none_left}
use Rattle.arcs.specs.Arcs.{Arcs}
use Rattle.arcs.proofs.Extents.{joined_keeps, joined_keeps_other}
use Rattle.arcs.proofs.arcs_box.Extent.around_all.Goals as goal

pub loop-table-preserved : goal.loop-table-preserved
loop-table-preserved c = λ t h.
    let before = c.loop-table.extent in
    let of_one = c.around.result in
    let w = c.widen_by.new.self in
    let is = c.widen_by.ensures in
    elim (c.loop-table.invariant t h) [
      | inl k ↦ elim (subst (Has t) (drop_item c.args.tables.now c.loop-table.table-index c.table-item.result c.loop-table-test.true c.table-item.is) k) [
        | inl e ↦ inr (λ arc a p q. joined_keeps_other before of_one w is.west is.south is.east is.north p (c.around.ensures arc (subst (λ (s : Arcs). Has arc s.arcs) e a) p q))
        | inr r ↦ inl r
      ]
      | inr f ↦ inr (λ arc a p q. joined_keeps before of_one w is.west is.south is.east is.north p (f arc a p q))
    ]

pub returns : goal.returns
returns c = λ t h. elim (c.loop-table.invariant t h) [
  | inl k ↦ absurd (none_left t c.args.tables.now c.loop-table.table-index c.loop-table-test.false k)
  | inr f ↦ f
]
