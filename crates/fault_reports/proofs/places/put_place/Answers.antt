use Rattle.fault_reports.proofs.FaultPlacesLemmas.{up_to_filled}
use Rattle.fault_reports.proofs.places.put_place.Goals as goal

pub returns-then-range-places : goal.returns-then-range-places
returns-then-range-places c = λ n within old. up_to_filled n c.args.at c.args.range.from _ _ c.args.places.now c.fill.new.self within (c.fill.ensures.after (λ y same. same)) old
