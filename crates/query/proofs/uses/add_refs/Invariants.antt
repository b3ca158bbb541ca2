use Rattle.std.proofs.Common.{◌≡◌, ◌++◌, drop}
use Rattle.query.specs.Uses.{refs_uses}
use Rattle.query.proofs.uses.add_refs.Given as goal

abbrev pub invariant-loop-used : goal.invariant-loop-used
invariant-loop-used l = l.uses.items ++ refs_uses l.fn.index (drop l.used-index l.fn.refs) ≡ l.fn.uses.items ++ refs_uses l.fn.index l.fn.refs
