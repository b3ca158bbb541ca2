use Rattle.std.proofs.Common.{rules}
use Rattle.std.proofs.lemmas.Fn.{always_returns_same}
use Rattle.lines.specs.Turned.{list_cmp}
use Rattle.arcs.proofs.Looking.{looked_by_code}
use Rattle.arcs.proofs.stored.ArcList.place_of.Goals as goal

pub returns : goal.returns
returns c = λ s.
    looked_by_code c.args.self.now c.as_slice.result.now c.args.positions.now _ _ c.as_slice.ensures c.ok.ensures.value c.binary_search_by.ensures.bound
    (c.binary_search_by.ensures.position (λ a. list_cmp a.positions c.args.positions.now) (always_returns_same _ _ _ (λ a r g h. (search rules, search rules)))) s
