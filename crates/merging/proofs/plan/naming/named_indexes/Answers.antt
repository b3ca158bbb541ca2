use Rattle.std.proofs.Common.{set, true, false, replicate, Some, ap, sym, ◌∙◌}
use Rattle.std.proofs.lemmas.List.{length-set}
use Rattle.std.proofs.lemmas.List.Elements.{All-pop}
use Rattle.merging.specs.Leaves.{leaves, HasIndexes}
use Rattle.merging.specs.Naming.{marked}
use Rattle.merging.proofs.LeafLemmas.{flat_pop}
use Rattle.merging.proofs.MarkLemmas.{index_marked}
use Rattle.merging.proofs.plan.naming.named_indexes.Goals as goal

pub loop-rest-preserved-in-Leaf : goal.loop-rest-preserved-in-Leaf
loop-rest-preserved-in-Leaf c =
    let waiting = c.loop-rest.waiting.items in
    let after = c.pop.new.self.items in
    let marks = c.loop-rest.marks.items in
    let index = c.in-Leaf.index in
    let all = All-pop (λ p. HasIndexes c.args.count p.now) waiting after (Some c.in-Some.before) c.in-Some.ensures.items c.loop-rest.invariant.waiting_indexes in
    record {
      marks_of = ap (marked (set marks index true)) (sym (flat_pop (λ p. leaves p.now) waiting after c.in-Some.before c.in-Some.ensures.items))
          ∙ index_marked (λ p. leaves p.now) marks (replicate c.args.count false) waiting (leaves c.loop-rest.rest.now) index (leaves c.args.plan.now) c.loop-rest.invariant.marks_of (ap leaves c.in-Leaf.is);
      long = length-set marks index true ∙ c.loop-rest.invariant.long;
      indexes = all.1;
      waiting_indexes = all.0;
    }
