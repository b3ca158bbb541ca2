use Rattle.std.proofs.Common.{ap}
use Rattle.std.specs.BTreeMap.{is_at}
use Rattle.std.specs.BTreeSet.{contains}
use Rattle.std.specs.List.{list_any}
use Rattle.lines.specs.Pairs.{pair_cmp}
use Rattle.fixing.proofs.RunSteps.{begun}
use Rattle.fixing.proofs.runs.Cutting.from.Goals as goal

pub returns : goal.returns
returns c =
    begun (contains pair_cmp c.new.result) c.new-2.result.items c.in_ok-only.field-0.items c.args.here
    (λ q. ap (list_any (is_at (pair_cmp q))) c.new.ensures.empty) c.new-2.ensures.items c.in_ok-only.ensures
