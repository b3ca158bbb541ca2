use Rattle.std.proofs.Common.{◌≡◌, ◌++◌, drop, map}
use Rattle.theory.specs.Lists.{gathered}
use Rattle.refine.specs.LeftLists.{body_ends}
use Rattle.refine.proofs.remove.add_ends_of_layer.Given as goal

abbrev pub invariant-loop-geometry : goal.invariant-loop-geometry
invariant-loop-geometry l =
    l.ends.items ++ gathered (λ g. body_ends l.fn.topology.arcs.arcs g.body) (map (λ g. g.now) (drop l.geometry-index l.geometry-items))
    ≡ l.fn.ends.items ++ gathered (λ g. body_ends l.fn.topology.arcs.arcs g.body) (map (λ g. g.now) l.fn.layer.geometries.items)
