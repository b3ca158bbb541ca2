use Rattle.std.proofs.Common.{refl, rules, FitsSigned, w64}
use Rattle.std.proofs.lemmas.Int.{to_z-of_z}
use Rattle.grid.proofs.transform.Grid.new.Goals as goal

pub returns-clause-exact : goal.returns-clause-exact
returns-clause-exact c =
    let fsx : FitsSigned w64 c.args.sx = c.ranges.sx in
    let fsy : FitsSigned w64 c.args.sy = c.ranges.sy in
    let ftx : FitsSigned w64 c.args.tx = c.ranges.tx in
    let fty : FitsSigned w64 c.args.ty = c.ranges.ty in
    let x = simp to_z-of_z at c.new.ensures.exact in
    let y = simp to_z-of_z at c.new-2.ensures.exact in
    (λ _. record { x = x.0 (search rules); y = y.0 (search rules) }, λ _. refl)
