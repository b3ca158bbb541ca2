use Rattle.std.proofs.Common.{◌≡◌, drop}
use Rattle.validate.specs.Lists.{none_free}
use Rattle.validate.proofs.lists.none_free.Given as goal

abbrev pub invariant-loop-used : goal.invariant-loop-used
invariant-loop-used l = none_free l.fn.table (drop l.used-index l.fn.refs) ≡ none_free l.fn.table l.fn.refs
