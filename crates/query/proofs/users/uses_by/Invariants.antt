use Rattle.std.proofs.Common.{◌≡◌, ◌++◌, drop, map}
use Rattle.topo.specs.OfMap.{body_of}
use Rattle.query.specs.EachOnce.{borrowed}
use Rattle.query.specs.Uses.{bodies_uses, geometries_uses}
use Rattle.query.proofs.users.uses_by.Given as goal

abbrev pub invariant-loop-index : goal.invariant-loop-index
invariant-loop-index l =
    l.uses.items ++ bodies_uses l.index (map (λ g. body_of g.body) (borrowed (drop l.index l.fn.geometries))) ≡ geometries_uses (borrowed l.fn.geometries)
