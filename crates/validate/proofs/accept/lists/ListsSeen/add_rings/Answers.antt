use Rattle.std.proofs.Common.{[], ◌∷◌, refl, subst, ◌∙◌}
use Rattle.topo.specs.BodyLists.{body_rings}
use Rattle.validate.specs.Accept.Added.{AreAdded}
use Rattle.validate.proofs.AcceptLemmas.Adding.{loop_done, loop_not, loop_on}
use Rattle.validate.proofs.accept.lists.ListsSeen.add_rings.Goals as goal

pub loop-refs-init : goal.loop-refs-init
loop-refs-init c = record {
  len = c.requires;
  rest = λ b s. subst (λ w. AreAdded c.args.table.now [] w b c.args.self.now s) (c.into_iter-refs-iterator.ensures.into_iter_gives ∙ c.rings-refs-items.ensures);
}

pub returns-then-not-add_ring : goal.returns-then-not-add_ring
returns-then-not-add_ring c =
    loop_not c.args.table.now (λ _. []) (λ xs. xs) (λ _. []) (λ us. us ∷ []) (λ x xs. refl) (λ x xs. refl) (body_rings c.args.body.now) c.loop-refs.refs-iterator c.args.self.now c.loop-refs.self
    c.loop-refs.invariant.rest c.in-Some.refs.now c.next.new.self c.add_ring.result c.add_ring.new.self c.in-Some.ensures.steps c.if-not-add_ring.true
    (subst (λ w. AreAdded c.args.table.now [] (w ∷ []) c.add_ring.result c.loop-refs.self c.add_ring.new.self) c.as_slice.ensures c.add_ring.ensures)

pub loop-refs-preserved : goal.loop-refs-preserved
loop-refs-preserved c =
    let added = subst (λ w. AreAdded c.args.table.now [] (w ∷ []) c.add_ring.result c.loop-refs.self c.add_ring.new.self) c.as_slice.ensures c.add_ring.ensures in
    record {
      len = added.len ∙ c.loop-refs.invariant.len;
      rest = loop_on c.args.table.now (λ _. []) (λ xs. xs) (λ _. []) (λ us. us ∷ []) (λ x xs. refl) (λ x xs. refl) (body_rings c.args.body.now) c.loop-refs.refs-iterator c.args.self.now c.loop-refs.self
          c.loop-refs.invariant.rest c.in-Some.refs.now c.next.new.self c.add_ring.result c.add_ring.new.self c.in-Some.ensures.steps c.if-not-add_ring.false added;
    }

pub returns : goal.returns
returns c =
    loop_done c.args.table.now (λ _. []) (λ xs. xs) (λ _. []) (λ us. us ∷ []) (λ x xs. refl) (λ x xs. refl) (body_rings c.args.body.now) c.loop-refs.refs-iterator c.args.self.now c.loop-refs.self
    c.loop-refs.invariant.rest c.in-None.ensures.steps.0 refl refl
