use Rattle.std.proofs.Common.{ap, ◌∙◌}
use Rattle.snapping.specs.NearlyShared.Rest.{listed}
use Rattle.snapping.proofs.NearlySharedLemmas.Tables.{listed_or, recorded_there}
use Rattle.snapping.proofs.nearly_shared.neighbours.add.Goals as goal

pub returns : goal.returns
returns c = λ q.
    recorded_there c.args.near.now c.remove.new.self c.insert.new.self c.args.one c.args.other q c.unwrap_or-others.result c.push.new.self
    (ap (λ v. v.items) c.unwrap_or-others.ensures ∙ listed_or c.remove.result c.new.result c.new.ensures.items ∙ ap listed c.remove.ensures.value)
    c.in_ok-push.ensures.items c.remove.ensures.updates c.in_ok-insert.ensures.updates
