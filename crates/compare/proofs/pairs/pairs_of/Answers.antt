use Rattle.std.proofs.Common.{Some, ap, arith, refl, rules, sym, ◌∙◌}
use Rattle.std.specs.declared.cmp.Ordering.TheVariants.{Less, Equal, Greater}
use Rattle.compare.specs.Pairing.{pair_by_order}
use Rattle.compare.proofs.Pairings.{all_pushed, asked, none_first, one_pushed}
use Rattle.compare.proofs.pairs.pairs_of.Goals as goal

pub loop-order-init : goal.loop-order-init
loop-order-init c = record {
  old = omega arith;
  new = omega arith;
  first = none_first c.args.olds.now c.args.news.now c.new-pairs.result.items c.new-pairs.ensures.items;
}

pub loop-order-preserved-in-Less : goal.loop-order-preserved-in-Less
loop-order-preserved-in-Less c = record {
  old = search rules;
  new = search rules;
  first =
      one_pushed c.args.olds.now c.args.news.now c.loop-order.old c.loop-order.new _ _ Less c.loop-order.pairs.items c.push.new.self.items c.pair_by.result
      (sym (ap Some c.in-Less.is) ∙ sym c.in-Some.is ∙ asked c.args.olds.now c.args.news.now c.loop-order.old c.loop-order.new c.get.result c.get-in-loop-order.result c.order_of.result c.get.ensures.lookup c.get-in-loop-order.ensures.lookup c.order_of.ensures.order)
      (c.pair_by.ensures ∙ ap (λ o. pair_by_order o c.loop-order.old c.loop-order.new) c.in-Less.is) refl refl c.in_ok-push.ensures.items c.loop-order.invariant.first;
}

pub loop-order-preserved-in-Equal : goal.loop-order-preserved-in-Equal
loop-order-preserved-in-Equal c = record {
  old = search rules;
  new = search rules;
  first =
      one_pushed c.args.olds.now c.args.news.now c.loop-order.old c.loop-order.new _ _ Equal c.loop-order.pairs.items c.push.new.self.items c.pair_by.result
      (sym (ap Some c.in-Equal.is) ∙ sym c.in-Some.is ∙ asked c.args.olds.now c.args.news.now c.loop-order.old c.loop-order.new c.get.result c.get-in-loop-order.result c.order_of.result c.get.ensures.lookup c.get-in-loop-order.ensures.lookup c.order_of.ensures.order)
      (c.pair_by.ensures ∙ ap (λ o. pair_by_order o c.loop-order.old c.loop-order.new) c.in-Equal.is) refl refl c.in_ok-push.ensures.items c.loop-order.invariant.first;
}

pub loop-order-preserved : goal.loop-order-preserved
loop-order-preserved c = record {
  old = search rules;
  new = search rules;
  first =
      one_pushed c.args.olds.now c.args.news.now c.loop-order.old c.loop-order.new _ _ Greater c.loop-order.pairs.items c.push.new.self.items c.pair_by.result
      (sym (ap Some c.in-Greater.is) ∙ sym c.in-Some.is ∙ asked c.args.olds.now c.args.news.now c.loop-order.old c.loop-order.new c.get.result c.get-in-loop-order.result c.order_of.result c.get.ensures.lookup c.get-in-loop-order.ensures.lookup c.order_of.ensures.order)
      (c.pair_by.ensures ∙ ap (λ o. pair_by_order o c.loop-order.old c.loop-order.new) c.in-Greater.is) refl refl c.in_ok-push.ensures.items c.loop-order.invariant.first;
}

pub returns : goal.returns
returns c =
    all_pushed c.args.olds.now c.args.news.now c.loop-order.old c.loop-order.new c.loop-order.pairs.items
    (sym c.in_default.is ∙ asked c.args.olds.now c.args.news.now c.loop-order.old c.loop-order.new c.get.result c.get-in-loop-order.result c.order_of.result c.get.ensures.lookup c.get-in-loop-order.ensures.lookup c.order_of.ensures.order)
    c.loop-order.invariant.first
