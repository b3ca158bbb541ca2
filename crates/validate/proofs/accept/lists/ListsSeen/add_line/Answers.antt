use Rattle.std.proofs.Common.{[], ◌∷◌, ◌++◌, ◌∙◌, ap, refl}
use Rattle.validate.proofs.AcceptLemmas.Adding.{line_added, line_not}
use Rattle.validate.proofs.accept.lists.ListsSeen.add_line.Goals as goal

pub returns-in_default : goal.returns-in_default
returns-in_default c = line_not c.args.table.now c.args.refs.now c.args.self.now _ c.in_default.ensures.stands c.in_default.ensures.len

pub returns : goal.returns
returns c =
    line_added c.args.table.now c.args.refs.now c.in-Some.start c.in-Some.end c.args.self.now _ (c.in-Some.ensures.stands.0 refl) c.in-Some.ensures.ends c.in-Some.ensures.used
    (c.in_ok-push-2.ensures.items ∙ ap (λ w. w ++ (c.in-Some.end ∷ [])) c.in_ok-push.ensures.items)
