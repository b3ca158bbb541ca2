use Rattle.std.proofs.Common.{length, ◌≤◌}
use Rattle.reading.proofs.TokensLemmas.Objects.{Known}
use Rattle.reading.proofs.tokens.object.read_members.Given as goal

abbrev pub invariant-members : goal.invariant-members
invariant-members g l = record {
  known : Known (g.N.TakeMember.knows l.on l.named) l.depth l.initial.reader l.reader;
  no_longer : length l.reader ≤ length l.initial.reader;
}

abbrev pub decreases-members : goal.decreases-members
decreases-members g l = length l.reader
