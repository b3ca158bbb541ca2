use Rattle.std.proofs.Common.{List}
use Rattle.shapes.specs.declared.shape.Id.{Id}
use Rattle.topo.specs.declared.geom.Geom.{Geom}
use Rattle.compare.specs.Differences.{Those}
use Rattle.compare.specs.Indexed.{IsIndexOf}
use Rattle.compare.specs.Keyed.{keys_in}
use Rattle.compare.specs.Placed.{IsGoneAt}
use Rattle.compare.proofs.partners.numbers_gone.Given as goal

abbrev pub invariant-loop-number : goal.invariant-loop-number
invariant-loop-number l = IsIndexOf l.fn.own.geometries.now (keys_in l.fn.own.keys) l.fn.own → (gs : List Geom) (ks : List Id) → IsIndexOf gs ks l.fn.others →
    Those (IsGoneAt l.fn.own.geometries.now gs (keys_in l.fn.own.keys) ks) l.number l.gone.items
