use Rattle.normalize.proofs.arc_lists.labels.root_of.Given as goal

abbrev pub decreases-loop-here : goal.decreases-loop-here
decreases-loop-here l = l.here
