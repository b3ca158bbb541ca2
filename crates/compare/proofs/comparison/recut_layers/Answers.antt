use Rattle.std.proofs.Common.{refl}
use Rattle.compare.proofs.Recutting.{compared}
use Rattle.compare.proofs.comparison.recut_layers.Goals as goal

pub returns : goal.returns
returns c = λ m n hm hn.
    compared {left = c.args.old} {right = c.args.new} refl refl c.into_parts-old_arcs.ensures.arcs c.into_parts-new_arcs.ensures.arcs
    c.into_parts-old_arcs.ensures.layers c.into_parts-new_arcs.ensures.layers c.in_ok-both.ensures.refined c.in_ok-made.ensures.old c.in_ok-made.ensures.new m n hm hn
    c.in_ok-made.made c.in_ok-made.ensures.arcs refl refl
