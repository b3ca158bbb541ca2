use Rattle.std.proofs.Common.{◌≡◌, Bool, [], length}
use Rattle.topo.specs.BodyLists.{body_lines}
use Rattle.validate.specs.Accept.Added.{AreAdded}
use Rattle.validate.specs.declared.accept.lists.ListsSeen.{ListsSeen}
use Rattle.validate.proofs.accept.lists.ListsSeen.add_lines.Given as goal

abbrev pub invariant-loop-refs : goal.invariant-loop-refs
invariant-loop-refs l = record {
  len : length l.self.used ≡ length l.fn.table.arcs;
  rest : (b : Bool) (s : ListsSeen) → AreAdded l.fn.table l.refs-iterator [] b l.self s → AreAdded l.fn.table (body_lines l.fn.body) [] b l.fn.self s;
}
