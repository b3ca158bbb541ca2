use Rattle.std.proofs.Common.{◌∙◌, sym, w64}
use Rattle.std.proofs.lemmas.Int.{to_z-of_z}
use Rattle.topo.specs.Box.{widened_at}
use Rattle.topo.proofs.bounds.widen_corners.Goals as goal

pub returns-in-Some : goal.returns-in-Some
returns-in-Some c =
    let box = c.wider.ensures in
    (λ i. (box.west i, box.south i, box.east i, box.north i))
    ∙ (λ i. widened_at (sym c.in-Some.is i) (to_z-of_z w64 c.args.x c.ranges.x i, to_z-of_z w64 c.args.y c.ranges.y i))
