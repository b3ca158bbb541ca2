use Rattle.decimal_faults.proofs.Items.{Made}
use Rattle.decimal_faults.proofs.lists.make_each.Given as goal

abbrev pub invariant-loop-i : goal.invariant-loop-i
invariant-loop-i g l = Made (g.P.Part.means l.of) (g.P.Part.faults l.of) l.values l.i l.initial.count l.count l.found.items
