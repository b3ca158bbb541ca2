use Rattle.std.proofs.Common.{◌≡◌, ◌++◌, drop, map}
use Rattle.topo.specs.OfMap.{body_of}
use Rattle.query.specs.Uses.{bodies_uses}
use Rattle.query.proofs.spans.all_uses.Given as goal

abbrev pub invariant-loop-index : goal.invariant-loop-index
invariant-loop-index l =
    l.uses.items ++ bodies_uses l.index (map (λ p. body_of p.body.now) (drop l.index l.fn.members))
    ≡ bodies_uses 0 (map (λ p. body_of p.body.now) l.fn.members)
