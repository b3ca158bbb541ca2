use Rattle.std.proofs.Common.{subst, sym}
use Rattle.normalize.specs.ArcLists.Lists.{SameFaults}
use Rattle.normalize.proofs.ArcListsLemmas.RunningOn.{same_faults}
use Rattle.normalize.proofs.arc_lists.lists.ArcLists.without_points.Goals as goal

pub returns : goal.returns
returns c =
    let lists = c.args.self.now in
    subst (SameFaults lists.arcs.now c.args.used.now) (sym c.in_ok-kept.ensures) (same_faults lists.arcs.now lists.summaries.items lists.known c.args.used.now)
