use Rattle.std.proofs.Common.{FitsSigned, w64, rules}
use Rattle.std.proofs.lemmas.Int.{to_z-of_z}
use Rattle.grid.specs.Place.{Transform, transform}
use Rattle.grid.proofs.Heard.{Answers, heard}
use Rattle.grid.proofs.Pairs.{x_exact, x_fault, y_exact, y_fault, both_exact, inside}
use Rattle.grid.proofs.transform.Grid.to_grid.Goals as goal

pub within-requires-clause-across : goal.within-requires-clause-across
within-requires-clause-across c =
    let fx : FitsSigned w64 c.in-Ok-Ok.x = search rules in
    let a : Answers c.self.inside.x c.args.ax c.to_grid.result = heard _ _ _ _ (to_z-of_z w64 c.args.ax c.ranges.ax) c.to_grid.ensures.exact c.to_grid.ensures.off_grid c.to_grid.ensures.out_of_range c.to_grid.ensures.computed in
    rw (to_z-of_z w64 c.in-Ok-Ok.x fx) (inside c.self.inside.x c.args.ax c.in-Ok-Ok.x c.to_grid.result c.in-Ok-Ok.is-0 a)

pub within-requires-clause-along : goal.within-requires-clause-along
within-requires-clause-along c =
    let fy : FitsSigned w64 c.in-Ok-Ok.y = search rules in
    let a : Answers c.self.inside.y c.args.ay c.to_grid-2.result = heard _ _ _ _ (to_z-of_z w64 c.args.ay c.ranges.ay) c.to_grid-2.ensures.exact c.to_grid-2.ensures.off_grid c.to_grid-2.ensures.out_of_range c.to_grid-2.ensures.computed in
    rw (to_z-of_z w64 c.in-Ok-Ok.y fy) (inside c.self.inside.y c.args.ay c.in-Ok-Ok.y c.to_grid-2.result c.in-Ok-Ok.is-1 a)

pub returns-in-Err-default-clause-exact : goal.returns-in-Err-default-clause-exact
returns-in-Err-default-clause-exact c =
    let a : Answers c.self.inside.x c.args.ax c.to_grid.result = heard _ _ _ _ (to_z-of_z w64 c.args.ax c.ranges.ax) c.to_grid.ensures.exact c.to_grid.ensures.off_grid c.to_grid.ensures.out_of_range c.to_grid.ensures.computed in
    let t : Transform = transform c.self.inside.x c.self.inside.y in
    rw (← c.self.view_is) (x_exact t c.args.ax c.args.ay c.to_grid.result c.in-Err-default.fault c.at.result c.in-Err-default.is-0 a)

pub returns-in-Err-default-clause-fault : goal.returns-in-Err-default-clause-fault
returns-in-Err-default-clause-fault c =
    let a : Answers c.self.inside.x c.args.ax c.to_grid.result = heard _ _ _ _ (to_z-of_z w64 c.args.ax c.ranges.ax) c.to_grid.ensures.exact c.to_grid.ensures.off_grid c.to_grid.ensures.out_of_range c.to_grid.ensures.computed in
    let t : Transform = transform c.self.inside.x c.self.inside.y in
    rw (← c.self.view_is) (x_fault t c.args.ax c.args.ay c.to_grid.result c.in-Err-default.fault c.at.result c.in-Err-default.is-0 a c.at.ensures)

pub returns-in_default-Err-clause-exact : goal.returns-in_default-Err-clause-exact
returns-in_default-Err-clause-exact c =
    let a : Answers c.self.inside.y c.args.ay c.to_grid-2.result = heard _ _ _ _ (to_z-of_z w64 c.args.ay c.ranges.ay) c.to_grid-2.ensures.exact c.to_grid-2.ensures.off_grid c.to_grid-2.ensures.out_of_range c.to_grid-2.ensures.computed in
    let t : Transform = transform c.self.inside.x c.self.inside.y in
    rw (← c.self.view_is) (y_exact t c.args.ax c.args.ay c.to_grid-2.result c.in_default-Err.fault c.at-in_default-Err.result c.in_default-Err.is-1 a)

pub returns-in_default-Err-clause-fault : goal.returns-in_default-Err-clause-fault
returns-in_default-Err-clause-fault c =
    let a : Answers c.self.inside.x c.args.ax c.to_grid.result = heard _ _ _ _ (to_z-of_z w64 c.args.ax c.ranges.ax) c.to_grid.ensures.exact c.to_grid.ensures.off_grid c.to_grid.ensures.out_of_range c.to_grid.ensures.computed in
    let b : Answers c.self.inside.y c.args.ay c.to_grid-2.result = heard _ _ _ _ (to_z-of_z w64 c.args.ay c.ranges.ay) c.to_grid-2.ensures.exact c.to_grid-2.ensures.off_grid c.to_grid-2.ensures.out_of_range c.to_grid-2.ensures.computed in
    let t : Transform = transform c.self.inside.x c.self.inside.y in
    rw (← c.self.view_is) (y_fault t c.args.ax c.args.ay c.to_grid.result c.to_grid-2.result c.in_default-Err.field-0-0 c.in_default-Err.fault c.at-in_default-Err.result c.in_default-Err.is-0 c.in_default-Err.is-1 a b c.at-in_default-Err.ensures)

pub returns-in-Ok-Ok-clause-exact : goal.returns-in-Ok-Ok-clause-exact
returns-in-Ok-Ok-clause-exact c =
    let fx : FitsSigned w64 c.in-Ok-Ok.x = search rules in
    let fy : FitsSigned w64 c.in-Ok-Ok.y = search rules in
    let a : Answers c.self.inside.x c.args.ax c.to_grid.result = heard _ _ _ _ (to_z-of_z w64 c.args.ax c.ranges.ax) c.to_grid.ensures.exact c.to_grid.ensures.off_grid c.to_grid.ensures.out_of_range c.to_grid.ensures.computed in
    let b : Answers c.self.inside.y c.args.ay c.to_grid-2.result = heard _ _ _ _ (to_z-of_z w64 c.args.ay c.ranges.ay) c.to_grid-2.ensures.exact c.to_grid-2.ensures.off_grid c.to_grid-2.ensures.out_of_range c.to_grid-2.ensures.computed in
    let t : Transform = transform c.self.inside.x c.self.inside.y in
    let u = simp to_z-of_z at c.within.ensures.across in
    let v = simp to_z-of_z at c.within.ensures.along in
    rw (← c.self.view_is) (both_exact t c.args.ax c.args.ay c.to_grid.result c.to_grid-2.result c.in-Ok-Ok.x c.in-Ok-Ok.y c.within.result c.in-Ok-Ok.is-0 c.in-Ok-Ok.is-1 a b u v)
