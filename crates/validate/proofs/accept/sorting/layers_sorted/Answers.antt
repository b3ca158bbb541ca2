use Rattle.std.proofs.Common.{rules, sym, ◌∙◌}
use Rattle.arcs.proofs.Merged.{emptied}
use Rattle.validate.proofs.AcceptLemmas.Sorted.{sorted_all, sorted_more, sorted_none}
use Rattle.validate.proofs.accept.sorting.layers_sorted.Goals as goal

pub loop-layer-init : goal.loop-layer-init
loop-layer-init c = record {
  recorded = c.new-order.ensures c.args.arcs.now.arcs;
  rest = sorted_none c.args.arcs.now.arcs c.args.layers.items c.into_iter-layer-iterator.result.rest.items c.in_ok-sorted.sorted.items (search rules) c.in_ok-sorted.ensures.items;
}

pub loop-layer-preserved : goal.loop-layer-preserved
loop-layer-preserved c = record {
  recorded = c.layer_sorted.ensures.recorded;
  rest =
      sorted_more c.args.arcs.now.arcs c.args.layers.items c.in-Some.layer c.in_ok-layer_sorted.field-0 c.loop-layer.layer-iterator.rest.items c.next.new.self.rest.items
      c.loop-layer.sorted.items c.push.new.self.items c.in-Some.ensures.steps.0 c.in_ok-layer_sorted.ensures.sorted c.in_ok-push.ensures.items c.loop-layer.invariant.rest;
}

pub returns : goal.returns
returns c =
    let left = c.loop-layer.layer-iterator.rest in
    sorted_all c.args.arcs.now.arcs c.args.layers.items left.items c.loop-layer.sorted.items (emptied left.items (sym left.ok.0 ∙ c.in-None.ensures.steps.0)) c.loop-layer.invariant.rest
