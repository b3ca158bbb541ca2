use Rattle.std.proofs.Common.{◌≡◌, ◌++◌, drop, map}
use Rattle.shapes.proofs.form_map.make_each.Given as goal

abbrev pub invariant-loop-old : goal.invariant-loop-old
invariant-loop-old g l =
    map g.B.Become.seen l.made.items ++ map (g.B.Become.becomes l.fn.by) (drop l.old-index l.fn.olds)
    ≡ map (g.B.Become.becomes l.fn.by) l.fn.olds
