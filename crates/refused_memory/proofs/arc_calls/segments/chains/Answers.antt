use Rattle.std.proofs.Common.{sym, subst}
use Rattle.chains.specs.Joined.{MeetsTwo}
use Rattle.refused_memory.proofs.arc_calls.segments.chains.Goals as goal

pub maximal-requires : goal.maximal-requires
maximal-requires c = subst (λ w. MeetsTwo w c.args.borrowed.now.stops.keys) (sym c.new-none.ensures.empty) (λ v w n s. absurd s)
