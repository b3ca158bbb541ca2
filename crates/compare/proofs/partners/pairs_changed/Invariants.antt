use Rattle.std.proofs.Common.{List}
use Rattle.shapes.specs.declared.shape.Id.{Id}
use Rattle.topo.specs.declared.geom.Geom.{Geom}
use Rattle.compare.specs.Indexed.{IsIndexOf}
use Rattle.compare.specs.Keyed.{keys_in}
use Rattle.compare.specs.Placed.{ArePairs}
use Rattle.compare.proofs.partners.pairs_changed.Given as goal

abbrev pub invariant-loop-old : goal.invariant-loop-old
invariant-loop-old l = IsIndexOf l.fn.own.geometries.now (keys_in l.fn.own.keys) l.fn.own → (gs : List Geom) (ks : List Id) → IsIndexOf gs ks l.fn.others →
    ArePairs l.fn.own.geometries.now gs (keys_in l.fn.own.keys) ks l.old l.changed.items
