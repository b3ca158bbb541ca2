use Rattle.std.specs.Fn.{FnReturnsAtPair}
use Rattle.query.specs.Selecting.{Known, ChosenBelow}
use Rattle.query.proofs.selecting.choose.Given as goal

abbrev pub invariant-loop-number : goal.invariant-loop-number
invariant-loop-number g l =
    Known (FnReturnsAtPair g.F.Fn l.fn.filter) l.fn.members l.known × ChosenBelow (FnReturnsAtPair g.F.Fn l.fn.filter) l.fn.members l.fn.spans l.number l.chosen.items
