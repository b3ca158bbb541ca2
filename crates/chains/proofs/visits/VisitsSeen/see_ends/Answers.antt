use Rattle.std.proofs.Common.{◌∙◌, ◌++◌, ◌∷◌, [], ap, sym, append_assoc}
use Rattle.chains.specs.Visits.{ends_of}
use Rattle.chains.proofs.Sharing.{ends_split}
use Rattle.chains.proofs.visits.VisitsSeen.see_ends.Goals as goal

pub returns-in_ok-push-2-clause-ends : goal.returns-in_ok-push-2-clause-ends
returns-in_ok-push-2-clause-ends c =
    let old = c.args.self.now.ends.items in
    let first = c.in-Some.first.now in
    let last = c.in-Some-split_last.last.now in
    c.in_ok-push-2.ensures.items
    ∙ ap (λ w. w ++ (last ∷ [])) c.in_ok-push.ensures.items
    ∙ append_assoc old (first ∷ []) (last ∷ [])
    ∙ ap (λ w. old ++ w)
    (sym (ap ends_of c.in-Some.ensures.cases.0 ∙ ends_split first c.in-Some.others.now c.in-Some-split_last.field-0-1.now last c.in-Some-split_last.ensures.cases.0))
