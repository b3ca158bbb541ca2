use Rattle.std.proofs.Common.{length, ◌≤◌}
use Rattle.reading.proofs.TokensLemmas.Lists.{Passed}
use Rattle.reading.proofs.tokens.list.read_rest.Given as goal

abbrev pub invariant-items : goal.invariant-items
invariant-items g l =
    record {
      passed : Passed (g.P.FromTokens.faults l.part) (g.P.FromTokens.means l.part) l.depth l.initial.reader l.reader l.initial.found.items l.found.items;
      no_longer : length l.reader ≤ length l.initial.reader;
    }

abbrev pub decreases-items : goal.decreases-items
decreases-items g l = length l.reader
