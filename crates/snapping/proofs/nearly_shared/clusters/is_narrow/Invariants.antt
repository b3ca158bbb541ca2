use Rattle.std.proofs.Common.{◌≡◌, drop}
use Rattle.snapping.specs.NearlyShared.Rest.{all_within}
use Rattle.snapping.proofs.nearly_shared.clusters.is_narrow.Given as goal

abbrev pub invariant-loop-member : goal.invariant-loop-member
invariant-loop-member l = all_within l.most l.first (drop l.member-index l.members) ≡ all_within l.most l.first l.members
