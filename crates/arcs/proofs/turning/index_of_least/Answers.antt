use Rattle.std.proofs.Common.{rules}
use Rattle.std.proofs.lemmas.Fn.{always_returns_same}
use Rattle.arcs.specs.Turning.{used_key}
use Rattle.arcs.proofs.LeastUsed.{least_found}
use Rattle.arcs.proofs.turning.index_of_least.Goals as goal

pub returns : goal.returns
returns c =
    let (p, from, whole, is) = c.position_min_by_key.ensures.runs in
    least_found c.args.arcs.now.arcs c.iter.result c.args.used.now c.position_min_by_key.result c.unwrap_or.result c.iter.ensures.rest
    (p, from, whole, is (λ x. used_key c.args.arcs.now.arcs x.now) (always_returns_same _ _ _ (λ a r q k. search rules))) c.unwrap_or.ensures
