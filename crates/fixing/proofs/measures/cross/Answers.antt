use Rattle.std.proofs.Common.{◌≡◌, ◌∙◌, FitsSigned, to_z, of_z, rules}
use Rattle.std.proofs.lemmas.Int.{to_z-of_z}
use Rattle.fixing.proofs.AreaSteps.{cross_means}
use Rattle.fixing.proofs.measures.cross.Goals as goal
use mir.Syntax.{w64, w128}

pub returns : goal.returns
returns c =
    let fits : FitsSigned w128 c.product.result = search rules in
    let fits_2 : FitsSigned w128 c.product-2.result = search rules in
    let ax : to_z w64 (of_z w64 c.x.result) ≡ c.args.a.x = to_z-of_z w64 c.x.result (search rules) ∙ c.x.ensures.value in
    let by : to_z w64 (of_z w64 c.y.result) ≡ c.args.b.y = to_z-of_z w64 c.y.result (search rules) ∙ c.y.ensures.value in
    let bx : to_z w64 (of_z w64 c.x-2.result) ≡ c.args.b.x = to_z-of_z w64 c.x-2.result (search rules) ∙ c.x-2.ensures.value in
    let ay : to_z w64 (of_z w64 c.y-2.result) ≡ c.args.a.y = to_z-of_z w64 c.y-2.result (search rules) ∙ c.y-2.ensures.value in
    cross_means c.product.result c.product-2.result _ _ _ _ c.args.a c.args.b fits fits_2 c.product.ensures c.product-2.ensures ax ay bx by
