use Rattle.std.proofs.Common.{◌≡◌, length, [], ◌+◌, ◌*◌, ◌≤◌}
use Rattle.serde_json.specs.View.{members_view}
use Rattle.reading.proofs.TokensLemmas.Lists.{Passed, NoFaults, IsSeen}
use Rattle.reading.proofs.TokensLemmas.Objects.{Known}
use Rattle.reading.proofs.tokens.value.+make.Given as goal

abbrev pub decreases-make_items : goal.decreases-make_items
decreases-make_items l = 2 * l.depth + 1

abbrev pub decreases-make_members : goal.decreases-make_members
decreases-make_members l = 2 * l.depth + 1

abbrev pub decreases-make_value : goal.decreases-make_value
decreases-make_value l = 2 * l.depth

abbrev pub invariant-make_items-items : goal.invariant-make_items-items
invariant-make_items-items l = record {
  passed : Passed NoFaults IsSeen l.depth l.initial.reader l.reader [] l.found.items;
  no_longer : length l.reader ≤ length l.initial.reader;
}

abbrev pub decreases-make_items-items : goal.decreases-make_items-items
decreases-make_items-items l = length l.reader

abbrev pub invariant-make_members-members : goal.invariant-make_members-members
invariant-make_members-members l = record {
  known : Known (λ ms. ms ≡ members_view l.found.entries) l.depth l.initial.reader l.reader;
  no_longer : length l.reader ≤ length l.initial.reader;
}

abbrev pub decreases-make_members-members : goal.decreases-make_members-members
decreases-make_members-members l = length l.reader
