use Rattle.std.proofs.Common.{sym, subst}
use Rattle.compare.specs.Compared.{AreInOrder, IsNumberOf}
use Rattle.compare.proofs.Recutting.{in_order}
use Rattle.shapes.specs.Union.{union}
use Rattle.chains.specs.Seen.{geometry_of}
use Rattle.compare.proofs.comparison.Comparison.pair.Goals as goal

pub returns : goal.returns
returns c = λ m n h. record {
  old = subst (λ ls. IsNumberOf ls c.args.name.now c.number_named.result) c.deref.ensures.value
      (c.number_named.ensures (subst AreInOrder (sym c.deref.ensures.value) (in_order (geometry_of (union m n)) c.args.self.now.arcs.arcs m c.args.self.now.old.items h.old)));
  new = subst (λ ls. IsNumberOf ls c.args.name.now c.number_named-2.result) c.deref-2.ensures.value
      (c.number_named-2.ensures (subst AreInOrder (sym c.deref-2.ensures.value) (in_order (geometry_of (union m n)) c.args.self.now.arcs.arcs n c.args.self.now.new.items h.new)));
}
