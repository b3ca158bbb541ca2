-- Which features have a segment, and which geometries use an arc.
use Rattle.std.specs.Prelude.{ℕ, List, ◌⊎◌}
use Rattle.theory.specs.ArcNumbers.{ArcRef, Uses}
use Rattle.theory.specs.Lists.{Has}
use Rattle.theory.specs.Segments.{Segment}
use Rattle.theory.specs.Topology.{Body, Shape, lines_in, rings_in}

-- u and v are neighbours on a line or a ring of the shape [topojson-client (neighbors, mesh)]
abbrev pub HasSegment : {V : Type 0} → V → V → Shape V → Type 0
HasSegment u v f = Segment (λ l. Has l (lines_in f)) (λ r. Has r (rings_in f)) u v

-- arc k is used, ahead or reversed, in a list of the body [topojson-client (neighbors, mesh)]
abbrev pub UsesArc : {V : Type 0} → ℕ → Body V → Type 0
UsesArc k b =
    ((us : List ArcRef) × Has us (lines_in b) × Uses k us) ⊎ ((us : List ArcRef) × Has us (rings_in b) × Uses k us)

-- the two shapes have a segment in common [topojson-client (neighbors, mesh)]
abbrev pub ShareSegment : {V : Type 0} → Shape V → Shape V → Type 0
ShareSegment {V} f h = (u : V) × (v : V) × HasSegment u v f × HasSegment u v h

-- the two bodies use an arc in common [topojson-client (neighbors, mesh)]
abbrev pub ShareArc : {V : Type 0} → Body V → Body V → Type 0
ShareArc a b = (k : ℕ) × UsesArc k a × UsesArc k b
