-- The stops of chosen arcs are those of their segments.
use Rattle.std.proofs.Common.{ℕ, List, inl, inr}
use Rattle.grid.specs.declared.pos.Pos.{Pos}
use Rattle.chains.specs.declared.segment.Segment.{Segment}
use Rattle.chains.specs.Along.{HasArcs}
use Rattle.query.specs.Stops.{AreHalts, AreStops}

-- the halts of arcs are the stops of their segments
pub halts_stops : (arcs : List (List Pos)) (ks : List ℕ) (segs : List Segment) (stops : List Pos) → HasArcs arcs ks segs → AreHalts arcs ks stops → AreStops segs stops
halts_stops arcs ks segs stops has are = λ v. (
  (λ k. elim ((are.exact v).0 k) [
    | inl o ↦ inl (o.0, (has v o.0).1 o.1, λ p h. o.2 p ((has v p).0 h))
    | inr o ↦ inr (o.0, o.1, o.2, (has v o.0).1 o.3, (has v o.1).1 o.4, (has v o.2).1 o.5, o.6, o.7, o.8)
  ]),
  (λ k. (are.exact v).1 (elim k [
    | inl o ↦ inl (o.0, (has v o.0).0 o.1, λ p h. o.2 p ((has v p).1 h))
    | inr o ↦ inr (o.0, o.1, o.2, (has v o.0).0 o.3, (has v o.1).0 o.4, (has v o.2).0 o.5, o.6, o.7, o.8)
  ])),
)
