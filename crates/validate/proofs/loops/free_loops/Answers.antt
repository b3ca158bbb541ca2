use Rattle.std.proofs.Common.{◌∙◌, ap, map}
use Rattle.validate.specs.FreeLoops.{goes_free}
use Rattle.validate.proofs.FreeLoops.{marks_table}
use Rattle.validate.proofs.Once.{all_made, marks_moved}
use Rattle.validate.proofs.loops.free_loops.Goals as goal

pub returns-clause-marks : goal.returns-clause-marks
returns-clause-marks c =
    let arcs = c.args.arcs.now in
    let sorted = c.sort_unstable.new.self.items in
    all_made (goes_free sorted) arcs c.loop-arc.arc-index c.loop-arc.marks.items (map (goes_free sorted) arcs) c.loop-arc-test.false c.loop-arc.invariant
    ∙ marks_moved c.add_all_ends.new.ends.items sorted c.sort_unstable.ensures.permutation arcs
    ∙ ap (λ w. map (goes_free w) arcs) c.in_ok-add_all_ends.ensures

pub returns-clause-of_map : goal.returns-clause-of_map
returns-clause-of_map c = λ g sound all are.
    let arcs = c.args.arcs.now in
    let sorted = c.sort_unstable.new.self.items in
    marks_table g sound arcs all c.args.line_ends.items are c.loop-arc.marks.items
    (all_made (goes_free sorted) arcs c.loop-arc.arc-index c.loop-arc.marks.items (map (goes_free sorted) arcs) c.loop-arc-test.false c.loop-arc.invariant
    ∙ marks_moved c.add_all_ends.new.ends.items sorted c.sort_unstable.ensures.permutation arcs
    ∙ ap (λ w. map (goes_free w) arcs) c.in_ok-add_all_ends.ensures)
