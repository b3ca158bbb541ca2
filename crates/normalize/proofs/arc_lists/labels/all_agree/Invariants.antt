use Rattle.std.proofs.Common.{◌≡◌, drop}
use Rattle.normalize.specs.ArcLists.Labels.{agree_from, all_agree}
use Rattle.normalize.proofs.arc_lists.labels.all_agree.Given as goal

abbrev pub invariant-loop-segment : goal.invariant-loop-segment
invariant-loop-segment l = agree_from l.fn.labels l.before (drop l.segment-index l.others) ≡ all_agree l.fn.labels l.fn.segments
