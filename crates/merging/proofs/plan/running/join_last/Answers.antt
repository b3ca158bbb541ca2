use Rattle.std.proofs.Common.{◌≡◌, refl, sym, ◌∙◌}
use Rattle.std.proofs.lemmas.Result.{err_from_is_err_and}
use Rattle.merging.proofs.RunLemmas.{all_but_two, only_memory}
use Rattle.merging.proofs.plan.running.join_last.Goals as goal

pub returns-in_err-join_owned-clause-memory : goal.returns-in_err-join_owned-clause-memory
returns-in_err-join_owned-clause-memory g c = λ t h.
    let on_grid = all_but_two (λ s. g.S.Shard.grid_of s ≡ t) c.args.made.now.items _ _ c.in-Some-pop.first c.in-Some.second h c.in-Some.ensures.items c.in-Some-pop.ensures.items in
    let p = err_from_is_err_and c.from_residual.result c.from_residual.ensures.1 in
    rw p.1 (p.2 ∙ only_memory _ _ c.in_err-join_owned.field-0.0 _ refl c.in_err-join_owned.ensures.other_grid (on_grid.1 ∙ sym on_grid.2))
