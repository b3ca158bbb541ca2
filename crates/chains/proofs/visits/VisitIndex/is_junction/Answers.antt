use Rattle.chains.proofs.Among.{is_known, is_known_by_segments}
use Rattle.chains.proofs.visits.VisitIndex.is_junction.Goals as goal

pub returns-clause-junction : goal.returns-clause-junction
returns-clause-junction c = is_known c.args.self.now c.args.p _ c.has.ensures

pub returns-clause-by_segments : goal.returns-clause-by_segments
returns-clause-by_segments c = is_known_by_segments c.args.self.now c.args.p _ c.has.ensures
