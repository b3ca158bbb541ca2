-- The vertices of a topology that are near each other.
use Rattle.std.specs.Prelude.{◌≡◌, ℕ, List, map, take, length}
use Rattle.topo.specs.Parts.{TopologyParts}
use Rattle.compare.specs.Quality.Found.{places_of}
use Rattle.compare.specs.Quality.Near.{near_pairs}
use Rattle.compare.specs.Quality.Uses.{AreVerticesOf}
use Rattle.compare.specs.declared.quality.vertex.Vertex.{Vertex}
use Rattle.compare.specs.declared.quality.near.NearVertices.{NearVertices}

-- all pairs of near vertices of the topology are counted, and the places of the first given
pub record AreNearOf (t : TopologyParts) (steps most : ℕ) (found : NearVertices) : Type 0 where
  pub vertices : List Vertex
  pub are : AreVerticesOf t vertices
  pub count : found.count ≡ length (near_pairs steps vertices)
  pub first : found.first.items ≡ take most (map places_of (near_pairs steps vertices))
