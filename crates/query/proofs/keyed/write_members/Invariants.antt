use Rattle.std.proofs.Common.{[], length}
use Rattle.std.specs.Prelude.{map}
use Rattle.sinks.specs.Writes.{TookUpTo}
use Rattle.query.specs.Keyed.{members}
use Rattle.query.proofs.keyed.write_members.Given as goal

abbrev pub invariant-loop-geometry : goal.invariant-loop-geometry
invariant-loop-geometry g l =
    TookUpTo (g.W.Sink.seen l.initial.sink) (g.W.Sink.seen l.sink) (members [] l.geometries l.geometries (map (λ v. v.items) l.lists))
    (members l.separator.0.now l.geometries l.others (map (λ v. v.items) l.left))

abbrev pub decreases-loop-geometry : goal.decreases-loop-geometry
decreases-loop-geometry g l = length l.others
