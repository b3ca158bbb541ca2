use Rattle.std.proofs.Common.{length, ◌+◌, ◌*◌, ◌≤◌}
use Rattle.reading.proofs.TokensLemmas.Lists.{Gone}
use Rattle.reading.proofs.TokensLemmas.Objects.{Known, AnyMembers}
use Rattle.reading.proofs.tokens.skip.+skip.Given as goal

abbrev pub decreases-skip_items : goal.decreases-skip_items
decreases-skip_items l = 2 * l.depth + 1

abbrev pub decreases-skip_members : goal.decreases-skip_members
decreases-skip_members l = 2 * l.depth + 1

abbrev pub decreases-skip_value : goal.decreases-skip_value
decreases-skip_value l = 2 * l.depth

abbrev pub invariant-skip_items-items : goal.invariant-skip_items-items
invariant-skip_items-items l = record {
  gone : Gone l.depth l.initial.reader l.reader;
  no_longer : length l.reader ≤ length l.initial.reader;
}

abbrev pub decreases-skip_items-items : goal.decreases-skip_items-items
decreases-skip_items-items l = length l.reader

abbrev pub invariant-skip_members-members : goal.invariant-skip_members-members
invariant-skip_members-members l = record {
  known : Known AnyMembers l.depth l.initial.reader l.reader;
  no_longer : length l.reader ≤ length l.initial.reader;
}

abbrev pub decreases-skip_members-members : goal.decreases-skip_members-members
decreases-skip_members-members l = length l.reader
