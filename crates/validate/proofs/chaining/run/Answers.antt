use Rattle.std.proofs.Common.{◌∙◌, sym}
use Rattle.validate.proofs.ChainedLists.{from_runs, none_runs}
use Rattle.validate.proofs.chaining.run.Goals as goal

pub returns-in-Some-run_from-clause-runs : goal.returns-in-Some-run_from-clause-runs
returns-in-Some-run_from-clause-runs g c =
    from_runs (g.A.NumberedArcs.arcs c.args.arcs.now) c.in-Some.start c.args.refs.now c.in-Some-run_from.end (sym c.run_from.ensures ∙ c.in-Some-run_from.is)

pub returns-in-None-clause-none : goal.returns-in-None-clause-none
returns-in-None-clause-none g c =
    none_runs (g.A.NumberedArcs.arcs c.args.arcs.now) c.args.refs.now c.in-Some.start (sym c.start_of.ensures ∙ c.in-Some.is) (sym c.run_from.ensures ∙ c.in-None.is)
