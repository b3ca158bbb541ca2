use Rattle.std.proofs.Common.{rules, subst}
use Rattle.std.proofs.lemmas.List.Sorted.{answers_always}
use Rattle.chains.specs.Noted.{recorded_in}
use Rattle.chains.specs.VertexFilter.{KeepsClashes}
use Rattle.chains.specs.Visits.{HaveSame}
use Rattle.chains.proofs.Gathered.{ends_alike, junctions_kept}
use Rattle.chains.proofs.Recurring.{keeps_through}
use Rattle.chains.proofs.visits.VisitIndex.of_seen.Goals as goal

pub returns : goal.returns
returns c = λ g all keeps are.
    junctions_kept g _ _ _ all _ _ _
    (keeps_through _ _ all (subst (λ l. KeepsClashes c.in_ok-repeats.repeats.items (recorded_in c.args.seen.inner.items l)) c.deref-2.ensures.value (subst (λ l. KeepsClashes c.in_ok-repeats.repeats.items (recorded_in l c.deref-2.result.now)) c.deref.ensures.value c.in_ok-repeats.ensures)) keeps)
    (ends_alike g _ _ all (subst (HaveSame _) c.deref-3.ensures.value c.in_ok-junctions.ensures) are) c.sort_unstable_by_key.ensures.permutation
    (c.sort_unstable_by_key.ensures.sorted (λ v. v.vertex) (answers_always _ _ _ (λ f a r g h. search rules)))
    c.deref-4.ensures.value c.in_ok-keep_clashes.ensures c.sort_unstable.ensures.permutation
