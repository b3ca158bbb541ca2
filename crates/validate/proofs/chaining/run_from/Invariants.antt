use Rattle.std.proofs.Common.{◌≡◌, drop}
use Rattle.validate.specs.Chaining.{run_from}
use Rattle.validate.proofs.chaining.run_from.Given as goal

abbrev pub invariant-loop-used : goal.invariant-loop-used
invariant-loop-used g l =
    run_from (g.A.NumberedArcs.arcs l.fn.arcs) l.here (drop l.used-index l.fn.refs) ≡ run_from (g.A.NumberedArcs.arcs l.fn.arcs) l.fn.start l.fn.refs
