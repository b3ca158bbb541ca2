use Rattle.std.proofs.Common.{◌≡◌, ◌++◌, map}
use Rattle.arcs.specs.Among.{among}
use Rattle.chains.specs.Pieces.{oriented}
use Rattle.chains.proofs.joining.pieces_of.Given as goal

abbrev pub invariant-loop-chain : goal.invariant-loop-chain
invariant-loop-chain l =
    l.pieces.items ++ map (oriented (among l.stops)) (map (λ c. c.items) l.chain-iterator.rest.items)
    ≡ map (oriented (among l.stops)) (map (λ c. c.items) l.fn.chains.items)
