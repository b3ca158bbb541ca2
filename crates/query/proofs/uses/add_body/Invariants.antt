use Rattle.std.proofs.Common.{◌≡◌, ◌++◌}
use Rattle.theory.specs.Lists.{gathered}
use Rattle.topo.specs.BodyLists.{body_lists}
use Rattle.query.specs.Uses.{refs_uses}
use Rattle.query.proofs.uses.add_body.Given as goal

abbrev pub invariant-loop-refs : goal.invariant-loop-refs
invariant-loop-refs l = l.uses.items ++ gathered (refs_uses l.fn.index) l.refs-iterator ≡ l.fn.uses.items ++ gathered (refs_uses l.fn.index) (body_lists l.fn.body)
