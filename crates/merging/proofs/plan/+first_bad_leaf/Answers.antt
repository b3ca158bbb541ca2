use Rattle.std.proofs.Common.{◌≡◌, cond, Some, sym, ◌∙◌, ap, subst, arith}
use Rattle.std.specs.Prelude.{nat_lt}
use Rattle.std.specs.Option.{option_or}
use Rattle.std.specs.List.{flat_map}
use Rattle.std.proofs.lemmas.Bool.{cond_below, cond_above}
use Rattle.merging.specs.Leaves.{leaves, first_outside}
use Rattle.merging.proofs.PlanSizes.{size}
use Rattle.merging.proofs.LeafLemmas.{leaf_read, index_passed, leaf_means, right_means, flat_pop, sum_pop}
use Rattle.merging.proofs.plan.+first_bad_leaf.Goals as goal
use Rattle.merging.proofs.plan.+first_bad_leaf.Goals.{then-index-count, else-index-count}

pub loop-rest-preserved-in-Leaf : goal.loop-rest-preserved-in-Leaf
loop-rest-preserved-in-Leaf t c =
    let is : c.if-index-count.found ≡ cond (nat_lt c.in-Leaf.index c.args.count) c.loop-rest.found (Some c.in-Leaf.index) =
    elim c.if-index-count.branch [
      | then-index-count w ↦ cond_above c.in-Leaf.index c.args.count c.loop-rest.found (Some c.in-Leaf.index) c.if-index-count.found w.if-index-count.true w.found-is
      | else-index-count w ↦ w.found-is ∙ cond_below c.in-Leaf.index c.args.count c.loop-rest.found (Some c.in-Leaf.index) w.if-index-count.false
    ] in
    let told = leaf_read c.args.count c.in-Leaf.index (flat_map (λ p. leaves p.now) c.loop-rest.waiting.items) (leaves c.loop-rest.rest.now) c.loop-rest.found c.if-index-count.found _ c.loop-rest.invariant.0 (ap leaves c.in-Leaf.is) is in
    let sizes = sum_pop (λ p. size p.now) _ _ _ c.in-Some.ensures.items in (
      subst (λ w. option_or (first_outside c.args.count w) c.if-index-count.found ≡ first_outside c.args.count (leaves c.args.plan.now))
          (flat_pop (λ p. leaves p.now) _ _ _ c.in-Some.ensures.items) told,
      omega (arith, c.loop-rest.invariant.1, sizes),
    )

pub loop-rest-preserved-then-index-count-2 : goal.loop-rest-preserved-then-index-count-2
loop-rest-preserved-then-index-count-2 t c = (
  index_passed c.args.count c.in-Leaf-deref.index _ (leaves c.in-Node.left.value) (leaves c.in-Node.right.value) _ _ _ (rw c.in-Node.is at c.loop-rest.invariant.0)
      (ap leaves (sym c.deref.ensures ∙ c.in-Leaf-deref.is)) (ap leaves c.deref-rest.ensures) c.if-index-count-2.true,
  omega (arith, c.loop-rest.invariant.1, ap size c.in-Node.is, ap size c.deref-rest.ensures),
)

pub loop-rest-preserved-in-Leaf-2 : goal.loop-rest-preserved-in-Leaf-2
loop-rest-preserved-in-Leaf-2 t c = (
  leaf_means c.args.count c.in-Leaf-deref.index _ (leaves c.in-Node.left.value) (leaves c.in-Node.right.value) _ _ _ (rw c.in-Node.is at c.loop-rest.invariant.0)
      (ap leaves (sym c.deref.ensures ∙ c.in-Leaf-deref.is)) (ap leaves c.deref-rest-in-Leaf-2.ensures) c.if-index-count-2.false,
  omega (arith, c.loop-rest.invariant.1, ap size c.in-Node.is, ap size c.deref-rest-in-Leaf-2.ensures),
)

pub loop-rest-preserved : goal.loop-rest-preserved
loop-rest-preserved t c =
    let told = right_means c.args.count (flat_map (λ p. leaves p.now) c.loop-rest.waiting.items) (leaves c.in-Node.left.value) (leaves c.in-Node.right.value) (leaves c.deref-rest-in-Err.result.now) (leaves c.deref-in-Err.result.now) c.loop-rest.found _ _ _ (rw c.in-Node.is at c.loop-rest.invariant.0)
    (ap leaves c.deref-rest-in-Err.ensures) (ap leaves c.deref-in-Err.ensures) c.first_bad_leaf.ensures.first c.or-found.ensures in
    rw c.in-Err.ensures.items (told, omega (arith, c.loop-rest.invariant.1, ap size c.in-Node.is, ap size c.deref-rest-in-Err.ensures))
