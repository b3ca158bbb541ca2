use Rattle.std.proofs.Common.{sym, subst, ap, ◌∙◌, ◌∷◌}
use Rattle.compare.specs.Quality.Near.{Ascend, near_to}
use Rattle.compare.proofs.QualityLemmas.Nearness.{rest_behind, near_left}
use Rattle.compare.proofs.quality.search.skip_beyond.Goals as goal

pub returns-clause-near : goal.returns-clause-near
returns-clause-near c = λ a.
    ap (near_to c.args.steps c.args.one) c.split_at.ensures.back
    ∙ near_left c.args.steps c.args.one c.args.behind.now c.count_beyond.result (c.count_beyond.ensures.beyond a)

pub returns-clause-ascend : goal.returns-clause-ascend
returns-clause-ascend c = λ a. subst (λ l. Ascend (c.args.one ∷ l)) (sym c.split_at.ensures.back) (rest_behind c.args.one c.args.behind.now c.count_beyond.result a)
