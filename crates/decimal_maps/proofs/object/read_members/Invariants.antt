use Rattle.std.proofs.Common.{length}
use Rattle.decimal_maps.proofs.Looping.{Known}
use Rattle.decimal_maps.proofs.object.read_members.Given as goal

abbrev pub invariant-members : goal.invariant-members
invariant-members g l = Known (g.N.TakeMember.knows l.on l.named) l.depth l.initial.reader l.reader

abbrev pub decreases-members : goal.decreases-members
decreases-members g l = length l.reader
