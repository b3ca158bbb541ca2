use Rattle.std.proofs.Common.{◌++◌, []}
use Rattle.theory.specs.Lists.{gathered}
use Rattle.chains.specs.Noted.{recorded_in, visits_at}
use Rattle.chains.proofs.Recurring.{all_recorded, none_recorded}
use Rattle.chains.proofs.repeats.Repeats.of.Goals as goal

pub returns : goal.returns
returns c =
    let seams = c.args.seams.now in
    let all = recorded_in c.args.inner.now seams in
    all_recorded c.add_visits.new.self all
    (c.add_visits.ensures all [] (c.add_inner.ensures all (seams ++ []) (none_recorded _ (gathered visits_at c.args.inner.now) seams)))
