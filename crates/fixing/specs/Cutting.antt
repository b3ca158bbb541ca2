-- The way along a line that `src/runs.rt` goes.
use Rattle.std.specs.Prelude.{List, ◌++◌}
use Rattle.std.specs.BTreeSet.{contains}
use Rattle.grid.specs.declared.pos.Pos.{Pos}
use Rattle.lines.specs.Pairs.{pair_cmp}
use Rattle.fixing.specs.Runs.{runs_on}
use Rattle.fixing.specs.declared.runs.Cutting.{Cutting}

-- the runs, where the way goes on along a list
abbrev pub runs_left : Cutting → List Pos → List (List Pos)
runs_left way l = way.ended.items ++ runs_on (contains pair_cmp way.used) way.run.items way.here l
