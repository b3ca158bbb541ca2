use Rattle.std.proofs.Common.{◌≡◌, IfSome, ap, map, subst, sym}
use Rattle.arcs.specs.Arcs.{Arcs}
use Rattle.validate.specs.Accept.Kept.{KeepLayers}
use Rattle.validate.specs.Accept.Laws.{HaveI64}
use Rattle.normalize.specs.Lists.{layer_healed}
use Rattle.normalize.specs.Pieces.{AreJoinedOf, AreSplit}
use Rattle.normalize.proofs.Kept.{ids_kept, layers_kept}
use Rattle.normalize.proofs.whole.normalize.Goals as goal

pub returns-clause-kept : goal.returns-clause-kept
returns-clause-kept c =
    let s = c.in-Some.split in
    let r = c.in-Some-2.joined in
    let split : AreSplit s.table.arcs c.args.arcs.now s.pieces.items = subst (λ o. IfSome o (λ s. AreSplit s.table.arcs c.args.arcs.now s.pieces.items)) c.in-Some.is c.in_ok-split.ensures in
    let joined : AreJoinedOf s.table.arcs r.arcs.arcs r.pieces = subst (λ o. IfSome o (λ r. AreJoinedOf s.table.arcs r.arcs.arcs r.pieces)) c.in-Some-2.is c.in_ok-joined.ensures in
    let layers : c.in_ok-layers.layers.items ≡ map (layer_healed s.pieces.items r) c.args.layers.now = c.in_ok-layers.ensures in
    let arcs : c.into_parts-arcs.result.0.arcs ≡ r.arcs.arcs = ap (λ (t : Arcs). t.arcs) c.into_parts-arcs.ensures.arcs in
    subst (λ w. w) (λ i. KeepLayers c.args.arcs.now (sym arcs i) c.args.layers.now (sym layers i)) (layers_kept s.table.arcs c.args.arcs.now s.pieces.items r split joined c.args.layers.now)

pub returns-clause-ids : goal.returns-clause-ids
returns-clause-ids c =
    λ h. subst HaveI64 (sym c.in_ok-layers.ensures) (ids_kept c.in-Some.split.pieces.items c.in-Some-2.joined c.args.layers.now h)
