use Rattle.std.proofs.Common.{◌≡◌, ◌++◌, None, map}
use Rattle.theory.specs.Lists.{Each}
use Rattle.lines.specs.Reading.{collapsed, line_fault}
use Rattle.lines.specs.Seen.{positions_of}
use Rattle.lines.specs.Turned.{position_cmp}
use Rattle.fixing.proofs.linework.lines_of.Given as goal

abbrev pub invariant-loop-list : goal.invariant-loop-list
invariant-loop-list l = record {
  sound : Each (λ p. line_fault position_cmp p ≡ None) l.list-iterator.rest.items;
  made : map positions_of l.lines.items ++ map (collapsed position_cmp) l.list-iterator.rest.items ≡ map (collapsed position_cmp) l.fn.lists.items;
}
