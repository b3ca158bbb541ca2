use Rattle.std.proofs.Common.{[], ◌∷◌, refl, subst, ◌∙◌}
use Rattle.topo.specs.BodyLists.{body_lines}
use Rattle.validate.specs.Accept.Added.{AreAdded}
use Rattle.validate.proofs.AcceptLemmas.Adding.{loop_done, loop_not, loop_on}
use Rattle.validate.proofs.accept.lists.ListsSeen.add_lines.Goals as goal

pub loop-refs-init : goal.loop-refs-init
loop-refs-init c = record {
  len = c.requires;
  rest = λ b s. subst (λ w. AreAdded c.args.table.now w [] b c.args.self.now s) (c.into_iter-refs-iterator.ensures.into_iter_gives ∙ c.lines-refs-items.ensures);
}

pub returns-then-not-branch : goal.returns-then-not-branch
returns-then-not-branch c =
    loop_not c.args.table.now (λ xs. xs) (λ _. []) (λ us. us ∷ []) (λ _. []) (λ x xs. refl) (λ x xs. refl) (body_lines c.args.body.now) c.loop-refs.refs-iterator c.args.self.now c.loop-refs.self
    c.loop-refs.invariant.rest c.in-Some.refs.now c.next.new.self c.in_ok-add_line.field-0 c.add_line.new.self c.in-Some.ensures.steps c.if-not-branch.true
    (subst (λ w. AreAdded c.args.table.now (w ∷ []) [] c.in_ok-add_line.field-0 c.loop-refs.self c.add_line.new.self) c.as_slice.ensures c.in_ok-add_line.ensures)

pub loop-refs-preserved : goal.loop-refs-preserved
loop-refs-preserved c =
    let added = subst (λ w. AreAdded c.args.table.now (w ∷ []) [] c.in_ok-add_line.field-0 c.loop-refs.self c.add_line.new.self) c.as_slice.ensures c.in_ok-add_line.ensures in
    record {
      len = added.len ∙ c.loop-refs.invariant.len;
      rest = loop_on c.args.table.now (λ xs. xs) (λ _. []) (λ us. us ∷ []) (λ _. []) (λ x xs. refl) (λ x xs. refl) (body_lines c.args.body.now) c.loop-refs.refs-iterator c.args.self.now c.loop-refs.self
          c.loop-refs.invariant.rest c.in-Some.refs.now c.next.new.self c.in_ok-add_line.field-0 c.add_line.new.self c.in-Some.ensures.steps c.if-not-branch.false added;
    }

pub returns : goal.returns
returns c =
    loop_done c.args.table.now (λ xs. xs) (λ _. []) (λ us. us ∷ []) (λ _. []) (λ x xs. refl) (λ x xs. refl) (body_lines c.args.body.now) c.loop-refs.refs-iterator c.args.self.now c.loop-refs.self
    c.loop-refs.invariant.rest c.in-None.ensures.steps.0 refl refl
