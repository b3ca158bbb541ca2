-- Vertices that more than one feature has, and vertices of different features that are near each other.
use Rattle.std.specs.Prelude.{◌≡◌, ◌==◌, ℕ, Bool, true, false, cond, List, [], ◌∷◌, length, Option, Some, None}
use Rattle.std.specs.List.{AllByRecursion}
use Rattle.grid.specs.declared.pos.Pos.{Pos}
use Rattle.theory.specs.Lists.{gathered}
use Rattle.compare.specs.Quality.Near.{Ascend, near_pairs}
use Rattle.compare.specs.Quality.Uses.{AreThere}
use Rattle.compare.specs.declared.quality.pairs.NearPlace.{NearPlace}
use Rattle.compare.specs.declared.quality.vertex.Vertex.{Vertex}
use Rattle.compare.specs.declared.quality.vertex.VertexUse.{VertexUse}
use Rattle.snapping.specs.declared.nearly_shared.counts.VertexCounts.{VertexCounts}

-- whether one of the uses is by another feature than f
abbrev pub has_another : ℕ → List VertexUse → Bool
has_another f [] = false
has_another f (u ∷ us) = cond (u.feature == f) (has_another f us) true

-- whether more than one feature has the vertex of these uses
abbrev pub has_two : List VertexUse → Bool
has_two [] = false
has_two (u ∷ us) = has_another u.feature us

-- the vertices that more than one feature has
abbrev pub shared : List Vertex → List Vertex
shared [] = []
shared (v ∷ vs) = cond (has_two v.uses.now) (v ∷ shared vs) (shared vs)

-- where the two vertices of the first pair lie
abbrev pub first_places : List (Vertex × Vertex) → Option (Pos × Pos)
first_places [] = None
first_places (p ∷ ps) = Some (p.0.at, p.1.at)

-- and of the first of some places
abbrev pub first_of : List (NearPlace × NearPlace) → Option (Pos × Pos)
first_of [] = None
first_of (p ∷ ps) = Some (p.0.at, p.1.at)

-- each vertex of the uses once, in order, with all its uses
pub record AreVertices (us : List VertexUse) (vs : List Vertex) : Type 0 where
  pub ascend : Ascend vs
  pub there : AllByRecursion AreThere vs
  pub all : gathered (λ v. v.uses.now) vs ≡ us

-- all vertices of more than one feature are counted, and all pairs of vertices of different features that are near each other
pub record AreCounts (us : List VertexUse) (steps : ℕ) (counts : VertexCounts) : Type 0 where
  pub vertices : List Vertex
  pub are : AreVertices us vertices
  pub shared : counts.shared ≡ length (shared vertices)
  pub count : counts.near ≡ length (near_pairs steps vertices)
  pub first : counts.first ≡ first_places (near_pairs steps vertices)
