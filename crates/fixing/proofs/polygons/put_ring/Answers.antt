use Rattle.std.proofs.Common.{◌++◌, ◌∷◌, [], ◌∙◌, ap, arith}
use Rattle.fixing.proofs.PolygonSteps.{put_past, put_means}
use Rattle.fixing.proofs.polygons.put_ring.Goals as goal

pub returns-in_ok-push : goal.returns-in_ok-push
returns-in_ok-push c =
    put_means c.args.polygons.now.items c.args.home c.index_mut.result.now c.push.new.self c.args.ring (omega (arith, c.args.polygons.now.ok.0))
    (c.in_ok-push.ensures.items ∙ ap (λ v. v.items ++ (c.args.ring ∷ [])) c.index_mut.ensures.value)

pub returns-else-home-len : goal.returns-else-home-len
returns-else-home-len c = put_past c.args.polygons.now.items c.args.home c.args.ring (omega (arith, c.args.polygons.now.ok.0))
