use Rattle.std.proofs.Common.{◌≡◌, refl}
use Rattle.std.proofs.lemmas.Iterator.{YieldsList-from_slice}
use Rattle.std.proofs.lemmas.Iterator.Adapters.{YieldsList-from_rev_slice}
use Rattle.std.proofs.lemmas.Iterator.Search.{cmp_from_yields_List}
use Rattle.lines.specs.Turned.{position_cmp}
use Rattle.arcs.proofs.piece.compare_backwards.Goals as goal

pub returns : goal.returns
returns c = cmp_from_yields_List (λ x y. y ≡ x) _ position_cmp _ c.cmp.ensures.ran (YieldsList-from_rev_slice c.args.chain.now cc) (λ it e. YieldsList-from_slice c.args.chain.now cc) (λ x y. refl)
