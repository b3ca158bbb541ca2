use Rattle.std.proofs.Common.{w64, rules}
use Rattle.std.proofs.lemmas.Int.{to_z-of_z}
use Rattle.grid.proofs.Heard.{Answers, answers}
use Rattle.grid.proofs.transform.Axis.to_grid.Goals as goal

-- what grid_number answers is heard as the axis's answer
axis_answers : (c : goal.After-grid_number) → Answers c.args.self.now c.args.a c.grid_number.result
axis_answers c =
    answers _ _ _ _ _ _ _ c.grid_number.result (to_z-of_z w64 c.self.inside.scale (search rules)) (to_z-of_z w64 c.self.inside.translate (search rules)) (to_z-of_z w64 c.args.a c.ranges.a) c.self.view_is c.self.invariant c.grid_number.ensures.number c.grid_number.ensures.fault

pub returns-clause-exact : goal.returns-clause-exact
returns-clause-exact c = (axis_answers c).exact

pub returns-clause-off_grid : goal.returns-clause-off_grid
returns-clause-off_grid c = (axis_answers c).off_grid

pub returns-clause-out_of_range : goal.returns-clause-out_of_range
returns-clause-out_of_range c = (axis_answers c).out_of_range

pub returns-clause-computed : goal.returns-clause-computed
returns-clause-computed c = (axis_answers c).computed
