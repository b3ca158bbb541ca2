use Rattle.std.proofs.Common.{ap, ◌+◌}
use Rattle.compare.proofs.QualityLemmas.Counted.{counted_once}
use Rattle.compare.proofs.quality.ids.count_id.Goals as goal

pub returns : goal.returns
returns c =
    counted_once c.args.counts.now c.insert.new.self c.args.id (c.times_in-times.result + 1) (ap (λ n. n + 1) c.times_in-times.ensures) (λ q. c.in_ok-insert.ensures.updates.0 q)
