use Rattle.std.proofs.Common.{◌≡◌, ◌++◌, drop, map}
use Rattle.shapes.proofs.form_map.make_groups.Given as goal

abbrev pub invariant-loop-group : goal.invariant-loop-group
invariant-loop-group g l =
    map (map g.B.Become.seen) l.made.items ++ map (map (g.B.Become.becomes l.fn.by)) (drop l.group-index l.fn.groups)
    ≡ map (map (g.B.Become.becomes l.fn.by)) l.fn.groups
