use Rattle.std.proofs.Common.{◌≡◌, ◌++◌, map}
use Rattle.std.specs.Option.{option_map}
use Rattle.lines.specs.Seen.{positions_of}
use Rattle.fixing.specs.Left.{all_counted, all_left, line_counted, lines_left}
use Rattle.fixing.proofs.linework.fix_lines.Given as goal

-- what was left so far and what is left of the others are what is left of all
abbrev pub invariant-loop-line : goal.invariant-loop-line
invariant-loop-line l = record {
  left : all_left (lines_left l.rules) l.fn.lines.items
      ≡ option_map (λ more. map positions_of l.fixed.items ++ more) (all_left (lines_left l.rules) l.line-iterator.rest.items);
  counted : all_counted (line_counted l.rules) l.line-iterator.rest.items l.fixes ≡ all_counted (line_counted l.rules) l.fn.lines.items l.fn.fixes;
}
