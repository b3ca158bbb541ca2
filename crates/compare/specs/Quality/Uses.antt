-- Which features have which vertices.
use Rattle.std.specs.Prelude.{◌≡◌, ℕ, ◌+◌, List, [], ◌∷◌, ◌++◌, map}
use Rattle.std.specs.Borrow.{Bor}
use Rattle.std.specs.Ordering.{nat_cmp, ordering_then}
use Rattle.std.specs.List.{AllByRecursion}
use Rattle.std.specs.List.Sorted.{IsPermutation}
use Rattle.std.specs.declared.cmp.Ordering.{Ordering}
use Rattle.grid.specs.declared.pos.Pos.{Pos}
use Rattle.lines.specs.Turned.{position_cmp}
use Rattle.theory.specs.ArcNumbers.{ArcRef}
use Rattle.theory.specs.Lists.{Has, gathered}
use Rattle.topo.specs.Parts.{TopologyParts}
use Rattle.topo.specs.Walked.{walked}
use Rattle.topo.specs.Bodies.{Body}
use Rattle.shapes.specs.declared.form.Form.TheVariants as of
use Rattle.topo.specs.declared.geom.Geom.{Geom}
use Rattle.compare.specs.Quality.Near.{Ascend}
use Rattle.compare.specs.declared.quality.vertex.Vertex.{Vertex}
use Rattle.compare.specs.declared.quality.vertex.VertexUse.{VertexUse}

-- the feature f has the position p
abbrev pub use_at : ℕ → Pos → VertexUse
use_at f p = record { at = p; feature = f }

-- it has each of the positions
abbrev pub places_uses : ℕ → List Pos → List VertexUse
places_uses f ps = map (λ p. record { at = p; feature = f }) ps

-- and each along used arcs
abbrev pub line_uses : List (List Pos) → ℕ → List ArcRef → List VertexUse
line_uses arcs f us = places_uses f (walked arcs us)

-- and each of a body
abbrev pub body_uses : List (List Pos) → ℕ → Body → List VertexUse
body_uses arcs f of.Null = []
body_uses arcs f (of.Point p) = use_at f p ∷ []
body_uses arcs f (of.MultiPoint ps) = places_uses f ps
body_uses arcs f (of.Line us) = line_uses arcs f us
body_uses arcs f (of.MultiLine ls) = gathered (line_uses arcs f) ls
body_uses arcs f (of.Polygon rs) = gathered (line_uses arcs f) rs
body_uses arcs f (of.MultiPolygon ps) = gathered (gathered (line_uses arcs f)) ps

-- the geometries, the first of which has the number n, have those of their bodies
abbrev pub geometries_uses : List (List Pos) → ℕ → List Geom → List VertexUse
geometries_uses arcs n [] = []
geometries_uses arcs n (g ∷ gs) = body_uses arcs n g.body ++ geometries_uses arcs (n + 1) gs

-- those of all layers, numbered through
abbrev pub all_uses : TopologyParts → List VertexUse
all_uses t = geometries_uses t.arcs.arcs 0 (gathered (λ l. l.geometries) t.layers)

-- the geometries behind references
abbrev pub borrowed : List (Bor Geom) → List Geom
borrowed gs = map (λ g. g.now) gs

-- by positions, then by features
abbrev pub use_cmp : VertexUse → VertexUse → Ordering
use_cmp u v = ordering_then (position_cmp u.at v.at) (nat_cmp u.feature v.feature)

-- all uses at the vertex lie where it lies
abbrev pub AreThere : Vertex → Type 0
AreThere v = (u : VertexUse) → Has u v.uses.now → u.at ≡ v.at

-- each vertex of the topology once, in order, with all its uses
pub record AreVerticesOf (t : TopologyParts) (vs : List Vertex) : Type 0 where
  pub ascend : Ascend vs
  pub there : AllByRecursion AreThere vs
  pub all : IsPermutation (all_uses t) (gathered (λ v. v.uses.now) vs)
