use Rattle.std.proofs.Common.{◌≡◌, ◌∷◌, drop}
use Rattle.validate.specs.Accept.Order.{name_cmp, rises}
use Rattle.validate.proofs.accept.order.names_rise.Given as goal

abbrev pub invariant-loop-layer : goal.invariant-loop-layer
invariant-loop-layer l = rises name_cmp (l.before ∷ drop l.layer-index l.others) ≡ rises name_cmp l.fn.layers
