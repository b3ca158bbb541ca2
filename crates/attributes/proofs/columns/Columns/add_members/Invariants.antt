use Rattle.attributes.specs.Columns.{column_at}
use Rattle.attributes.proofs.Gathering.{ArePassed}
use Rattle.attributes.proofs.columns.Columns.add_members.Given as goal

abbrev pub invariant-loop-name : goal.invariant-loop-name
invariant-loop-name l = ArePassed (column_at l.initial.self) (column_at l.self) l.fn.members.entries l.name-iterator
