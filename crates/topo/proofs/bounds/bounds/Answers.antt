use Rattle.std.proofs.Common.{◌++◌, ◌∙◌, sym, Some}
use Rattle.theory.specs.Lists.{gathered, joined}
use Rattle.topo.specs.Points.{layer_points}
use Rattle.topo.proofs.Boxes.{are_grid_numbers, box_of_numbers, box_of_none}
use Rattle.topo.proofs.bounds.bounds.Goals as goal

pub absolute-requires : goal.absolute-requires
absolute-requires c = are_grid_numbers (joined c.args.arcs.now.arcs ++ gathered layer_points c.args.layers.now) c.in-Some.corners (sym c.in-Some.ensures.corners)

pub returns-in-Some-clause-corners : goal.returns-in-Some-clause-corners
returns-in-Some-clause-corners c =
    let box = c.absolute.ensures in
    (λ i. Some (box.west i, box.south i, box.east i, box.north i))
    ∙ box_of_numbers c.args.grid.now box.limits (joined c.args.arcs.now.arcs ++ gathered layer_points c.args.layers.now) c.in-Some.corners (sym c.in-Some.ensures.corners)

pub returns-in-None-clause-corners : goal.returns-in-None-clause-corners
returns-in-None-clause-corners c = box_of_none c.args.grid.now (joined c.args.arcs.now.arcs ++ gathered layer_points c.args.layers.now) (sym c.in-None.ensures.corners)
