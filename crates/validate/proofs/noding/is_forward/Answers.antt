use Rattle.std.proofs.Common.{◌≡◌, ap, refl, ◌∙◌}
use Rattle.std.specs.Ordering.{is_gt}
use Rattle.std.proofs.lemmas.Iterator.{YieldsList-from_slice}
use Rattle.std.proofs.lemmas.Iterator.Adapters.{YieldsList-from_rev_slice}
use Rattle.std.proofs.lemmas.Iterator.Search.{cmp_from_yields_List}
use Rattle.lines.specs.Turned.{position_cmp}
use Rattle.validate.proofs.noding.is_forward.Goals as goal

pub returns : goal.returns
returns c =
    c.is_gt.ensures
    ∙ ap is_gt (cmp_from_yields_List (λ x y. y ≡ x) _ position_cmp _ c.cmp.ensures.ran (YieldsList-from_rev_slice c.args.arc.now cc) (λ it e. YieldsList-from_slice c.args.arc.now cc) (λ x y. refl))
